-- The live copy of a block in a list, and how a withdrawal and one more copy change it.
use Rattle.std.proofs.Common.{◌≡◌, inl, inr, ℕ, zero, suc, Bool, true, false, not, ◌&&◌, ◌==◌, List, [], ◌∷◌, ◌++◌, set, map, arith, refl, sym, ap, ◌∙◌, Some, None}
use Rattle.std.specs.List.{slice_get}
use Rattle.std.proofs.lemmas.Bool.{and_parts, cases_Bool, cases_eq, eqb-true}
use Rattle.std.proofs.lemmas.Bool.Decides.{nat_tests}
use Rattle.std.proofs.lemmas.Option.{none-some}
use Rattle.checkpoint.specs.declared.copies.QueuedCopy.{QueuedCopy}
use Rattle.checkpoint.specs.declared.version.Version.{Version}
use Rattle.checkpoint.specs.Copies.{IsSingle, is_live_of, newest_in, version_of, withdrawn}

-- a live copy is of its block
pub live-block : (b : ℕ) (c : QueuedCopy) → is_live_of b c ≡ true → (c.live ≡ true) × (c.block ≡ b)
live-block b c live = let p = and_parts c.live _ live in (p.0, eqb-true c.block b p.1)

-- if no copy of a block is live, it has no newest one
pub newest-none : (b : ℕ) (cs : List QueuedCopy) → ((j : ℕ) (c : QueuedCopy) → slice_get cs j ≡ Some c → is_live_of b c ≡ false) → newest_in cs b ≡ None
newest-none b [] dead = refl
newest-none b (c ∷ cs) dead = rw (dead 0 c refl) (newest-none b cs (λ j d here. dead (suc j) d here))

-- the live copy of a block is its newest
pub newest-found : (b : ℕ) (cs : List QueuedCopy) (k : ℕ) (c : QueuedCopy) → IsSingle cs → slice_get cs k ≡ Some c → is_live_of b c ≡ true → newest_in cs b ≡ Some (version_of c)
newest-found b [] k c single here live = absurd cc
newest-found b (d ∷ cs) zero c single here live =
    let same : d ≡ c = cc in
    rw (same, live) refl
newest-found b (d ∷ cs) (suc k) c single here live =
    let rest = newest-found b cs k c single.1 here live in
    elim (cases_Bool (is_live_of b d)) [
      | inl first ↦
          let p = live-block b d first in
          absurd (none-some (version_of c) (sym (ap (newest_in cs) (sym p.1) ∙ single.0 p.0) ∙ rest))
      | inr other ↦ rw other rest
    ]

-- a dead copy, or one of another block, stays as it is
withdrawn-other : (b : ℕ) (c : QueuedCopy) → is_live_of b c ≡ false → withdrawn b c ≡ c
withdrawn-other b c other =
    let same : (c.live && not (c.block == b)) ≡ c.live = grind (arith, nat_tests) in
    ap (λ (l : Bool). let d : QueuedCopy = record { tid = c.tid; block = c.block; place = c.place; live = l } in d) same

-- equal elements in front of equal lists
same-cons : {c d : QueuedCopy} {cs ds : List QueuedCopy} → c ≡ d → cs ≡ ds → c ∷ cs ≡ d ∷ ds
same-cons e f = cc

-- if no copy of a block is live, a withdrawal changes nothing
pub withdrawn-none : (b : ℕ) (cs : List QueuedCopy) → newest_in cs b ≡ None → map (withdrawn b) cs ≡ cs
withdrawn-none b [] none = refl
withdrawn-none b (c ∷ cs) none =
    elim (cases_Bool (is_live_of b c)) [
      | inl live ↦ absurd (none-some (version_of c) (sym (rw live at none)))
      | inr other ↦ same-cons (withdrawn-other b c other) (withdrawn-none b cs (rw other at none))
    ]

-- the one live copy of a block, no longer live
pub withdrawn-set : (b : ℕ) (cs : List QueuedCopy) (k : ℕ) (c d : QueuedCopy) → IsSingle cs → slice_get cs k ≡ Some c → is_live_of b c ≡ true → d ≡ withdrawn b c → set cs k d ≡ map (withdrawn b) cs
withdrawn-set b [] k c d single here live is = absurd cc
withdrawn-set b (x ∷ cs) zero c d single here live is =
    let same : x ≡ c = cc in
    let p = live-block b c live in
    let first : x.live ≡ true = ap (λ (y : QueuedCopy). y.live) same ∙ p.0 in
    let block : x.block ≡ b = ap (λ (y : QueuedCopy). y.block) same ∙ p.1 in
    same-cons (is ∙ ap (withdrawn b) (sym same)) (sym (withdrawn-none b cs (ap (newest_in cs) (sym block) ∙ single.0 first)))
withdrawn-set b (x ∷ cs) (suc k) c d single here live is =
    let rest = newest-found b cs k c single.1 here live in
    elim (cases_Bool (is_live_of b x)) [
      | inl first ↦
          let p = live-block b x first in
          absurd (none-some (version_of c) (sym (ap (newest_in cs) (sym p.1) ∙ single.0 p.0) ∙ rest))
      | inr other ↦ same-cons (sym (withdrawn-other b x other)) (withdrawn-set b cs k c d single.1 here live is)
    ]

-- a live copy, no longer live
pub withdrawn-live : (b : ℕ) (c : QueuedCopy) → is_live_of b c ≡ true →
    ◌≡◌ {A = QueuedCopy} (record { tid = c.tid; block = c.block; place = c.place; live = false }) (withdrawn b c)
withdrawn-live b c live =
    let same : false ≡ (c.live && not (c.block == b)) = grind (arith, nat_tests) in
    ap (λ (l : Bool). let d : QueuedCopy = record { tid = c.tid; block = c.block; place = c.place; live = l } in d) same

-- after a withdrawal the block has no newest copy
pub newest-withdrawn : (b : ℕ) (cs : List QueuedCopy) → newest_in (map (withdrawn b) cs) b ≡ None
newest-withdrawn b [] = refl
newest-withdrawn b (c ∷ cs) =
    let dead : is_live_of b (withdrawn b c) ≡ false = grind (arith, nat_tests) in
    rw dead (newest-withdrawn b cs)

-- another block keeps its newest copy
pub newest-withdrawn_other : (a b : ℕ) (cs : List QueuedCopy) → (a ≡ b → ⊥) → newest_in (map (withdrawn b) cs) a ≡ newest_in cs a
newest-withdrawn_other a b [] apart = refl
newest-withdrawn_other a b (c ∷ cs) apart =
    let same : is_live_of a (withdrawn b c) ≡ is_live_of a c = grind (arith, nat_tests) in
    rw (same, newest-withdrawn_other a b cs apart) refl

-- a withdrawal leaves at most one live copy of each block
pub single-withdrawn : (b : ℕ) (cs : List QueuedCopy) → IsSingle cs → IsSingle (map (withdrawn b) cs)
single-withdrawn b [] single = tt
single-withdrawn b (c ∷ cs) single = (
  λ live.
      let p = and_parts c.live _ live in
      elim (cases_eq c.block b) [
        | inl same ↦ ap (newest_in (map (withdrawn b) cs)) same ∙ newest-withdrawn b cs
        | inr apart ↦ newest-withdrawn_other c.block b cs apart ∙ single.0 p.0
      ],
  single-withdrawn b cs single.1,
)

-- a block's newest copy in joined lists, if the first has none
pub newest-behind : (b : ℕ) (cs ds : List QueuedCopy) → newest_in cs b ≡ None → newest_in (cs ++ ds) b ≡ newest_in ds b
newest-behind b [] ds none = refl
newest-behind b (c ∷ cs) ds none =
    elim (cases_Bool (is_live_of b c)) [
      | inl live ↦ absurd (none-some (version_of c) (sym (rw live at none)))
      | inr other ↦ rw other (newest-behind b cs ds (rw other at none))
    ]

-- a block's newest copy in joined lists, if the first has one
pub newest-front : (b : ℕ) (v : Version) (cs ds : List QueuedCopy) → newest_in cs b ≡ Some v → newest_in (cs ++ ds) b ≡ Some v
newest-front b v [] ds some = absurd (none-some v some)
newest-front b v (c ∷ cs) ds some =
    elim (cases_Bool (is_live_of b c)) [
      | inl live ↦ rw live (rw live at some)
      | inr other ↦ rw other (newest-front b v cs ds (rw other at some))
    ]

-- one more copy of a block without a live one keeps copies single
pub single-more : (cs : List QueuedCopy) (d : QueuedCopy) → IsSingle cs → newest_in cs d.block ≡ None → IsSingle (cs ++ d ∷ [])
single-more [] d single none = (λ _. refl, tt)
single-more (c ∷ cs) d single none =
    elim (cases_Bool (is_live_of d.block c)) [
      | inl live ↦ absurd (none-some (version_of c) (sym (rw live at none)))
      | inr other ↦
          let rest : newest_in cs d.block ≡ None = rw other at none in (
            λ live.
                let apart : is_live_of c.block d ≡ false = grind (arith, nat_tests) in
                newest-behind c.block cs (d ∷ []) (single.0 live) ∙ rw apart refl,
            single-more cs d single.1 rest,
          )
    ]
