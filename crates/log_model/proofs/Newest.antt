-- A block has at most one newest live copy in a chain.
use Rattle.std.proofs.Common.{◌≡◌, ◌⊎◌, inl, inr, ℕ, ◌-◌, ◌<◌, ◌≤◌, List, Some, slice_get, get_or, length, refl, sym, ◌∙◌, ap, subst, arith}
use Rattle.std.proofs.lemmas.Bool.{cases_eq, cases_lt}
use Rattle.std.proofs.lemmas.Option.{same_Some, some_pair_parts, slice_get_read, get_or_from_slice_get}
use Rattle.log_model.specs.declared.log.Text.{Text}
use Rattle.log_model.specs.Replay.{IsCovered, IsLive, IsNewest, IsReplayed}
use Rattle.log_model.specs.Text.{text_copies}
use Rattle.journal_model.specs.Transaction.{Volume}

-- two places, each at or before the other, are equal
same_place : (i j k m : ℕ) → (j < i) ⊎ ((j ≡ i) × (m ≤ k)) → (i < j) ⊎ ((i ≡ j) × (k ≤ m)) → (i ≡ j) × (k ≡ m)
same_place i j k m one other = (grind arith, grind arith)

-- a live copy has the bytes that stand at its place
live-same : (texts : List Text) (b i j k m : ℕ) (one other : List ℕ) → i ≡ j → k ≡ m → IsLive texts b i k one → IsLive texts b j m other → one ≡ other
live-same texts b i j k m one other row place p q =
    let text : p.text ≡ q.text = same_Some p.text q.text (sym p.stands ∙ ap (slice_get texts) row ∙ q.stands) in
    let copy : Some (b, one) ≡ Some (b, other) = sym p.copy ∙ ap (λ t. slice_get (text_copies t) k) text ∙ ap (slice_get (text_copies q.text)) place ∙ q.copy in
    (some_pair_parts b b one other copy).1

-- two newest copies of a block are equal
pub newest-same : (texts : List Text) (b : ℕ) (one other : List ℕ) → IsNewest texts b one → IsNewest texts b other → one ≡ other
newest-same texts b one other p q =
    let place : (p.i ≡ q.i) × (p.k ≡ q.k) = same_place p.i q.i p.k q.k (p.newest q.i q.k other q.live) (q.newest p.i p.k one p.live) in
    live-same texts b p.i q.i p.k q.k one other place.0 place.1 p.live q.live

-- a replay of one chain over one volume makes one volume
pub replayed-same : (count : ℕ) (texts : List Text) (left one other : Volume) → IsReplayed count texts left one → IsReplayed count texts left other → (b : ℕ) → b < count → one b ≡ other b
replayed-same count texts left one other p q b below =
    elim (p b below) [
      | inl first ↦
          elim (q b below) [
            | inl second ↦ newest-same texts b (one b) (other b) first second
            | inr (none, kept) ↦ absurd (none first.i first.k (one b) first.live)
          ]
      | inr (none, kept) ↦
          elim (q b below) [
            | inl second ↦ absurd (none second.i second.k (other b) second.live)
            | inr (also, held) ↦ kept ∙ sym held
          ]
    ]

-- a live copy of text i stands among the copies of that text
pub live-among : (texts : List Text) (b i k : ℕ) (text : Text) (bytes : List ℕ) → i < length texts → text ≡ get_or texts i text → IsLive texts b i k bytes → slice_get (text_copies text) k ≡ Some (b, bytes)
live-among texts b i k text bytes below read live =
    let same : live.text ≡ text =
    same_Some live.text text (sym live.stands ∙ slice_get_read texts (length texts) i text refl below read) in
    ap (λ t. slice_get (text_copies t) k) (sym same) ∙ live.copy

-- the last copy of a block in an uncovered text is its last live one
pub live-last : (texts : List Text) (b i k : ℕ) (text : Text) (bytes : List ℕ) (d : ℕ × List ℕ) →
    (IsCovered texts i b → ⊥) → i < length texts → text ≡ get_or texts i text →
    (w : List ℕ) × (slice_get (text_copies text) k ≡ Some (b, w)) →
    ((m : ℕ) (other : List ℕ) → slice_get (text_copies text) m ≡ Some (b, other) → m ≤ k) →
    bytes ≡ (get_or (text_copies text) k d).1 →
    (x : ℕ) × IsLive texts b i x bytes × ((m : ℕ) (other : List ℕ) → IsLive texts b i m other → m ≤ x)
live-last texts b i k text bytes d uncovered below read (w, copy) last made =
    let same : bytes ≡ w = made ∙ ap (λ p. p.1) (get_or_from_slice_get (text_copies text) k (b, w) d copy) in
    let live : IsLive texts b i k bytes = record {
      text = text;
      stands = slice_get_read texts (length texts) i text refl below read;
      copy = copy ∙ ap (λ v. Some (b, v)) (sym same);
      uncovered = uncovered;
    } in
    (k, live, λ m other l. last m other (live-among texts b i m text other below read l))

-- no copy is live from a text on, if none is later and none is in it
pub none-live-from : (texts : List Text) (b n : ℕ) → ((j k : ℕ) (bytes : List ℕ) → n ≤ j → IsLive texts b j k bytes → ⊥) →
    ((k : ℕ) (bytes : List ℕ) → IsLive texts b (n - 1) k bytes → ⊥) →
    (j k : ℕ) (bytes : List ℕ) → n - 1 ≤ j → IsLive texts b j k bytes → ⊥
none-live-from texts b n later here j k bytes from live =
    elim (cases_eq j (n - 1)) [
      | inl same ↦ here k bytes (subst (λ i. IsLive texts b i k bytes) same live)
      | inr other ↦ later j k bytes (omega arith) live
    ]

-- the last live copy of a text is the newest, if none is later
pub newest-from-last : (texts : List Text) (b n : ℕ) (bytes : List ℕ) → ((j k : ℕ) (bytes : List ℕ) → n ≤ j → IsLive texts b j k bytes → ⊥) →
    (k : ℕ) × IsLive texts b (n - 1) k bytes × ((m : ℕ) (other : List ℕ) → IsLive texts b (n - 1) m other → m ≤ k) →
    IsNewest texts b bytes
newest-from-last texts b n bytes later (k, live, last) =
    record {
      i = n - 1;
      k = k;
      live = live;
      newest = λ j m other l.
          elim (cases_eq j (n - 1)) [
            | inl same ↦ inr (same, last m other (subst (λ i. IsLive texts b i m other) same l))
            | inr apart ↦
                elim (cases_lt j n) [
                  | inl before ↦ inl (omega arith)
                  | inr after ↦ absurd (later j m other after l)
                ]
          ];
    }
