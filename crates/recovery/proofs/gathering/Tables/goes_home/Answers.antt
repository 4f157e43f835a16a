use Rattle.std.proofs.Common.{◌≡◌, ℕ, Bool, true, false, Option, Some, None, refl, sym, ◌∙◌, ap, subst}
use Rattle.std.specs.Prelude.{IsTrue, ◌↔◌, not, ◌==◌}
use Rattle.std.specs.FinMap.{get}
use Rattle.std.specs.Option.{option_eq}
use Rattle.block_tables.specs.Revokes.{BlockTable, Covers}
use Rattle.recovery.specs.Choice.{is_place, reaches}
use Rattle.recovery.specs.Gather.{TablesValue}
use Rattle.recovery.proofs.Choosing.{covers-reaches}
use Rattle.recovery.proofs.gathering.Tables.goes_home.Goals as goal

-- the look-up is the test of the place
placed : (o : Option ℕ) (place : ℕ) → option_eq (λ (a b : ℕ). a == b) o (Some place) ≡ is_place place o
placed None place = refl
placed (Some p) place = refl

-- the look-up is the test of the revoke
covered : (revokes : BlockTable) (b tid : ℕ) (answer : Bool) → (IsTrue answer ↔ Covers revokes b tid) → answer ≡ reaches tid (get revokes b)
covered revokes b tid true same = sym ((covers-reaches revokes b tid).1 (same.0 refl))
covered revokes b tid false same =
    elim (reaches tid (get revokes b)) as (λ r. (r ≡ true → IsTrue false) → false ≡ r) [
      | true ↦ λ no_cover. absurd (let none = no_cover refl in cc)
      | false ↦ λ no_cover. refl
    ] (λ is. same.1 ((covers-reaches revokes b tid).0 is))

pub returns-then-eq : goal.returns-then-eq
returns-then-eq c =
    let t : TablesValue = c.args.self.now in
    let noted = c.newest.ensures ∙ ap (λ (x : TablesValue). get x.copies c.args.block) c.self.view_is in
    let test : is_place c.args.place (get t.copies c.args.block) ≡ true =
    ap (is_place c.args.place) (sym noted) ∙ sym (placed c.newest.result c.args.place) ∙ sym c.eq.ensures ∙ c.if-eq.true in
    let answer : c.covers.result ≡ reaches c.args.tid (get t.revokes c.args.block) =
    covered t.revokes c.args.block c.args.tid c.covers.result
    (subst (λ (x : TablesValue). IsTrue c.covers.result ↔ Covers x.revokes c.args.block c.args.tid) c.self.view_is c.covers.ensures) in
    rw test (ap not answer)
