use Rattle.std.proofs.Common.{◌≡◌, Some, sym, ap, ◌∙◌}
use Rattle.checkpoint.specs.Copies.{is_live_of}
use Rattle.checkpoint.proofs.Newest.{newest-found, newest-none}
use Rattle.checkpoint.proofs.copies.Copies.newest.Goals as goal

-- the live copy that was found is the newest
pub returns-in-Some : goal.returns-in-Some
returns-in-Some c =
    let found = c.in-Some.ensures.some in
    let same : c.at.result ≡ found.0 = let e : Some c.at.result ≡ Some found.0 = sym c.at.ensures ∙ found.1 in cc in
    ap Some c.version.ensures ∙ sym (newest-found c.args.block c.args.self.now.copies c.in-Some.place c.at.result c.find.ensures.kept.single c.at.ensures (ap (is_live_of c.args.block) same ∙ found.2))

-- if none was found there is none
pub returns-in-None : goal.returns-in-None
returns-in-None c = sym (newest-none c.args.block c.args.self.now.copies c.in-None.ensures.none)
