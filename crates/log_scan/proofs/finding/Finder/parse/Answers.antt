use Rattle.std.proofs.Common.{◌≡◌, ℕ, ap, ◌∙◌, sym, subst}
use Rattle.journal_model.specs.Layout.{sequence_in}
use Rattle.log_format.specs.Size.{count_of}
use Rattle.log_scan.specs.Finding.{FinderValue, Says}
use Rattle.log_scan.proofs.finding.Finder.parse.Goals as goal

-- a revoke block of this number
pub returns-in-5-clause-says : goal.returns-in-5-clause-says
returns-in-5-clause-says c =
    let same : c.bytes.result.now ≡ c.args.self.now.block = c.bytes.ensures ∙ ap (λ (f : FinderValue). f.block) c.self.view_is in
    let number : sequence_in c.args.self.now.block ≡ c.args.sequence =
    ap sequence_in (sym same) ∙ sym c.in-Some.ensures.2 ∙ sym c.from.ensures ∙ c.if-from-sequence.false in
    subst (λ (n : ℕ). Says c.args.self.now.layout (count_of c.args.self.now.layout c.args.home_blocks) n c.args.behind c.args.self.now.block c.parse_revokes.new.self c.parse_revokes.result) number
    (c.parse_revokes.ensures.says c.args.behind)
