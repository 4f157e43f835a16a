-- Whether a block is left to home, by the last effect on it of the batches handed over.
use Rattle.std.proofs.Common.{arith, inl, inr, refl, sym, ap, subst, ◌∙◌}
use Rattle.std.specs.Prelude.{◌≡◌, ◌↔◌, ℕ, suc, ◌+◌, ◌<◌, ◌≤◌, nat_eq, List, length, map, Option, Some, None, slice_get, Contains}
use Rattle.std.specs.Cmp.{nat_eq_equiv}
use Rattle.std.specs.List.{IsDistinct}
use Rattle.std.proofs.lemmas.Bool.{cases_eq, cases_lt}
use Rattle.std.proofs.lemmas.Map.Views.{lookup-from_Contains}
use Rattle.std.proofs.lemmas.Option.{same_Some, slice_get_within}
use Rattle.journal_model.specs.declared.entry.Batch.{Batch}
use Rattle.journal_model.specs.declared.entry.Entry.{Entry}
use Rattle.journal_model.specs.declared.entry.Entry.TheVariants.{Copy, Revoke}
use Rattle.block_tables.specs.Effects.LastEffect.{Copied, Revoked}
use Rattle.block_tables.specs.Effects.{EffectsValue, HasLast, LastEffect, HasNoEntry, IsLeft, effect_of, effect_on, last_effect, noted_effect}
use Rattle.block_tables.proofs.Lasts.{none-entered, some-last}
use Rattle.block_tables.proofs.Noted.{Forgets, LastLacks, noted-fits}
use Rattle.journal_world.specs.declared.stage.Stage.{Stage}
use Rattle.journal_world.specs.declared.stage.Stage.TheVariants.{Idle, SuperblockWrite, SuperblockFlush, Blocks, CommitWrite, CommitFlush}
use Rattle.journal_world.specs.Direct.{IsLeftToHome}
use Rattle.journal_world.specs.Engine.{Engine, IsBatch}
use Rattle.journal_world.specs.Sound.{IsPlain, StageAgrees}
use Rattle.journal_world.proofs.Batches.{number-at}
use Rattle.journal_world.proofs.Elements.{all-at}
use Rattle.journal_world.proofs.Lasts.{entry-block}
use Rattle.log_engine.specs.Engine.{HasEffects}

-- entries of different blocks have one for each block
one-entry : (es : List (ℕ × Entry)) (b : ℕ) (x y : Entry) → IsDistinct nat_eq (map (λ p. p.0) es) → Contains es (b, x) → Contains es (b, y) → x ≡ y
one-entry es b x y once one other =
    same_Some x y (sym (lookup-from_Contains nat_eq_equiv b x es once one) ∙ lookup-from_Contains nat_eq_equiv b y es once other)

copy-apart : (v : List ℕ) → ◌≡◌ {A = Entry} (Copy v) Revoke → ⊥
copy-apart v same = cc

-- the effect `Copied` comes of a copy
entry-copied : (tid : ℕ) (entry : Entry) → Copied ≡ effect_of tid entry → (v : List ℕ) × (entry ≡ Copy v)
entry-copied tid (Copy v) is = (v, refl)
entry-copied tid Revoke is = absurd cc

entry-revoked : (tid t : ℕ) (entry : Entry) → Revoked t ≡ effect_of tid entry → (entry ≡ Revoke) × (t ≡ tid)
entry-revoked tid t (Copy v) is = absurd cc
entry-revoked tid t Revoke is = (refl, cc)

module _ (e : Engine) (b : ℕ) where
  -- a block without an entry is left to home
  left-none : HasNoEntry e.accepted b → IsLeftToHome e b
  left-none none = record {
    none_newest = λ i v newest. none i newest.copy.batch newest.copy.stands (entry-block newest.copy.batch.entries b (Copy v) newest.copy.copy);
    none_due = λ j due least stands has. none j due stands has;
  }

  module _ (effect : LastEffect) (l : HasLast e.accepted b effect) where
    -- a block whose last entry is not committed is not
    due-kept : e.committed ≤ l.index → IsLeftToHome e b → ⊥
    due-kept due left = left.none_due l.index l.transaction due l.stands (entry-block l.transaction.entries b l.entry l.has)

    -- nor is one whose last entry is a copy
    copy-kept : (v : List ℕ) → l.entry ≡ Copy v → IsLeftToHome e b → ⊥
    copy-kept v is left =
        elim (cases_lt l.index e.committed) [
          | inl below ↦
              left.none_newest l.index v
              (record {
                copy = record {
                  batch = l.transaction;
                  committed = below;
                  stands = l.stands;
                  copy = subst (λ (x : Entry). Contains l.transaction.entries (b, x)) is l.has;
                };
                last = λ j later after before stands has. l.last j later after stands has;
              })
          | inr due ↦ due-kept (omega arith) left
        ]

    -- one whose last entry is a committed revoke is
    left-revoked : IsPlain e → l.entry ≡ Revoke → l.index < e.committed → IsLeftToHome e b
    left-revoked plain is below = record {
      none_newest = λ i v newest.
          let copy = newest.copy in
          elim (cases_lt i l.index) [
            | inl before ↦ newest.last l.index l.transaction before below l.stands (entry-block l.transaction.entries b l.entry l.has)
            | inr not ↦
                elim (cases_lt l.index i) [
                  | inl behind ↦ l.last i copy.batch behind copy.stands (entry-block copy.batch.entries b (Copy v) copy.copy)
                  | inr here ↦
                      let same : i ≡ l.index = omega arith in
                      let one : copy.batch ≡ l.transaction = same_Some _ _ (sym copy.stands ∙ ap (slice_get e.accepted) same ∙ l.stands) in
                      let batch : IsBatch e.layout e.shape l.transaction = all-at (IsBatch e.layout e.shape) e.accepted l.index l.transaction plain.batches l.stands in
                      copy-apart v
                      (one-entry l.transaction.entries b (Copy v) Revoke batch.once
                      (subst (λ (x : Batch). Contains x.entries (b, Copy v)) one copy.copy)
                      (subst (λ (x : Entry). Contains l.transaction.entries (b, x)) is l.has))
                ]
          ];
      none_due = λ j due least stands has. l.last j due (omega arith) stands has;
    }

  -- so its last effect decides
  left-told : IsPlain e → (o : Option LastEffect) → last_effect e.accepted b None ≡ o → IsLeft o (e.first + e.committed) ↔ IsLeftToHome e b
  left-told plain None is = (λ yes. left-none ((none-entered e.accepted b).0 is), λ left. tt)
  left-told plain (Some Copied) is =
      let l = some-last e.accepted b Copied is in
      let copy = entry-copied l.transaction.tid l.entry l.is in
      (λ yes. absurd yes, λ left. copy-kept Copied l copy.0 copy.1 left)
  left-told plain (Some (Revoked t)) is =
      let l = some-last e.accepted b (Revoked t) is in
      let revoke = entry-revoked l.transaction.tid t l.entry l.is in
      let tid : t ≡ l.transaction.tid = revoke.1 in
      let number : l.transaction.tid ≡ e.first + l.index = number-at e.first l.index e.accepted l.transaction plain.numbered l.stands in (
        λ below. left-revoked (Revoked t) l plain revoke.0 (omega arith),
        λ left.
            elim (cases_lt l.index e.committed) [ inl below ↦ omega arith | inr due ↦ absurd (due-kept (Revoked t) l (omega arith) left) ],
      )

-- at most the last batch handed over is not committed
last-open : (e : Engine) (stage : Stage) → StageAgrees e stage → length e.accepted ≤ e.committed + 1
last-open e Idle agrees = let all = agrees.0 in omega arith
last-open e SuperblockWrite agrees = let all = agrees.0 in omega arith
last-open e SuperblockFlush agrees = let all = agrees.0 in omega arith
last-open e (Blocks k) agrees = let all = agrees.0 in omega arith
last-open e CommitWrite agrees = let all = agrees.0 in omega arith
last-open e CommitFlush agrees = let all = agrees.0 in omega arith

-- a revoke that is not noted is committed, so its block is left to home
forgotten-left : (e : Engine) (b : ℕ) → IsPlain e → Forgets (noted_effect e.accepted b None) (last_effect e.accepted b None) → LastLacks e.accepted b → IsLeftToHome e b
forgotten-left e b plain f lacks =
    let l = some-last e.accepted b (Revoked f.tid) f.revoked in
    let revoke = entry-revoked l.transaction.tid f.tid l.entry l.is in
    let tid : f.tid ≡ l.transaction.tid = revoke.1 in
    let number : l.transaction.tid ≡ e.first + l.index = number-at e.first l.index e.accepted l.transaction plain.numbered l.stands in
    let within = slice_get_within e.accepted l.index l.transaction l.stands in
    let recent = last-open e e.stage plain.stage in
    let earlier : suc l.index ≡ length e.accepted → ⊥ = λ last. lacks l.index l.transaction l.stands last (entry-block l.transaction.entries b l.entry l.has) in
    (left-told e b plain (Some (Revoked f.tid)) f.revoked).0
    (elim (cases_eq (suc l.index) (length e.accepted)) [ inl last ↦ absurd (earlier last) | inr before ↦ omega arith ])

-- the table decides whether a block is left to home
pub table-told : (e : Engine) (table : EffectsValue) (b next : ℕ) → IsPlain e → HasEffects e table → next ≡ e.first + e.committed →
    IsLeft (effect_on table b) next ↔ IsLeftToHome e b
table-told e table b next plain has is =
    elim (noted-fits e.accepted b None None (inl refl)) [
      | inl same ↦
          subst (λ (n : ℕ). IsLeft (effect_on table b) n ↔ IsLeftToHome e b) (sym is)
          (left-told e b plain (effect_on table b) (sym (has b ∙ same)))
      | inr (f, lacks) ↦
          (λ yes. forgotten-left e b plain f lacks, λ left. subst (λ (o : Option LastEffect). IsLeft o next) (sym (has b ∙ f.none)) tt)
    ]
