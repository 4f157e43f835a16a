use Rattle.std.proofs.Common.{◌≡◌, refl, List, ℕ, ap, sym, ◌∙◌, subst, arith, inl}
use Rattle.log_model.specs.declared.log.Tag.{Tag}
use Rattle.journal_model.specs.Layout.{HasHeader, descriptor_type, sequence_in}
use Rattle.log_scan.specs.declared.finding.Found.{Found}
use Rattle.log_scan.specs.declared.finding.Found.TheVariants.{Descriptor, Malformed, Nothing}
use Rattle.log_scan.specs.Finding.{FinderValue, Says}
use Rattle.log_format.specs.Size.{count_of}
use Rattle.log_scan.proofs.Fronts.{other-many}
use Rattle.log_scan.proofs.Looking.{says-same}
use Rattle.std.proofs.lemmas.List.{length-take-le}
use Rattle.log_scan.proofs.finding.Finder.parse_descriptor.Goals as goal
use Rattle.log_scan.proofs.finding.Finder.parse_descriptor.Goals.{Joined-read, in-Ok, in-Ok-2, in-Err}

-- the block that was read
same : (c : Joined-read) → c.bytes.result.now ≡ c.args.self.now.block
same c = c.bytes.ensures ∙ ap (λ (f : FinderValue). f.block) c.self.view_is

-- what a block that was read says, the block says
says : (c : Joined-read) → Found → List Tag → List ℕ → Type 0
says c found tags x =
    let f : FinderValue = record { layout = c.self.inside.layout; block = c.self.inside.block; tags = tags; numbers = c.self.inside.numbers } in
    Says c.self.inside.layout (count_of c.self.inside.layout c.args.home_blocks) (sequence_in x) c.args.behind x f found

-- its tags, or that it has none
tags-said : (c : Joined-read) → says c c.match-read.result c.read.new.tags c.args.self.now.block
unfolding says
tags-said c =
    let b : List ℕ = c.bytes.result.now in
    let ts : List Tag = c.read.new.tags in
    let header : HasHeader descriptor_type (sequence_in b) b = subst (λ (x : List ℕ). HasHeader descriptor_type (sequence_in x) x) (sym (same c)) c.requires in
    elim c.match-read.branch [
      | in-Ok w ↦
          let tags : says c (Descriptor w.in-Ok.tags) ts b = (w.in-Ok.ensures.0, omega arith, w.in-Ok.ensures.1) in
          rw w.result-is (subst (says c (Descriptor w.in-Ok.tags) ts) (same c) tags)
      | in-Ok-2 w ↦
          let many : says c Nothing ts b =
          other-many _ _ _ _ _ _ w.in-Ok.ensures.1 (let size = length-take-le w.in-Ok.tags ts w.in-Ok.ensures.0 in omega arith) in
          rw w.result-is (subst (says c Nothing ts) (same c) many)
      | in-Err w ↦
          let bad : says c Malformed ts b = inl (header, w.in-Err.ensures) in
          rw w.result-is (subst (says c Malformed ts) (same c) bad)
    ]

pub returns-clause-says : goal.returns-clause-says
unfolding says
returns-clause-says c =
    let f : FinderValue = record { layout = c.self.inside.layout; block = c.self.inside.block; tags = c.read.new.tags; numbers = c.self.inside.numbers } in
    says-same (sequence_in c.args.self.now.block) c.args.behind f c.match-read.result (ap (λ (f : FinderValue). f.layout) c.self.view_is) (ap (λ (f : FinderValue). count_of f.layout c.args.home_blocks) c.self.view_is) refl
    (tags-said c)
