-- Lists of which one more item is seen, and lists side by side.
use Rattle.std.proofs.Common.{◌⊎◌, ◌∙◌, sym, ap, subst, refl, arith, inl, inr, ⊎_elim}
use Rattle.std.specs.Prelude.{◌≡◌, ℕ, suc, ◌+◌, ◌<◌, ◌++◌, List, [], ◌∷◌, Option, Some, None, get_or, length, map, take, All, Contains, IfSome, Vec}
use Rattle.std.specs.Global.{Global}
use Rattle.std.specs.List.{AllZip}
use Rattle.std.proofs.lemmas.List.{take_more}
use Rattle.std.proofs.lemmas.List.Elements.{All-get_or, All-more}
use Rattle.std.proofs.lemmas.Slice.Zip.{all_zipped_more}
use Rattle.script_threads.specs.Verdicts.{HasReceiptUpTo, IsOfClient, IsOfHandle, IsUpTo, Told}
use Rattle.script_threads.specs.declared.told.ToldHandle.{ToldHandle}
use Rattle.script_threads.specs.declared.told.ToldReceipt.{ToldReceipt}

-- What holds of the first i items and of the next holds of i + 1.
pub all-more : {A : Type 0} (P : A → Type 0) (xs : List A) (i : ℕ) (x : A) → i < length xs → x ≡ get_or xs i x → All P (take i xs) → P x → All P (take (i + 1) xs)
all-more P xs i x less is all one = All-more P xs i x less all (subst P is one)

-- What fails for one fails for all.
pub all-fails : {A : Type 0} (P : A → Type 0) (xs : List A) (i : ℕ) (x : A) → i < length xs → x ≡ get_or xs i x → (P x → ⊥) → All P xs → ⊥
all-fails P xs i x less is fails all = fails (subst P (sym is) (All-get_or P xs i x less all))

-- One more pair at the end of both lists.
pub zips-more : {A B : Type 0} (R : A → B → Type 0) (xs : List A) (old new : List B) (i : ℕ) (x : A) (y : B) → i < length xs → x ≡ get_or xs i x → new ≡ old ++ y ∷ []
    → AllZip R (take i xs) old → R x y → AllZip R (take (i + 1) xs) new
zips-more {A} {B} R xs old new i x y less is adds all one =
    subst (λ (zs : List A). AllZip R zs new) (sym (take_more xs i x less ∙ ap (λ (z : A). take i xs ++ z ∷ []) (sym is)))
    (subst (λ (zs : List B). AllZip R (take i xs ++ x ∷ []) zs) (sym adds) (all_zipped_more R (take i xs) old x y all one))

-- From a relation of the first and second list and one of the second and third to one of the first and third.
pub zip-through : {A B C : Type 0} (P : A → B → Type 0) (Q : B → C → Type 0) (S : A → C → Type 0) → ((x : A) (y : B) (z : C) → P x y → Q y z → S x z) →
    (xs : List A) (ys : List B) (zs : List C) → AllZip P xs ys → AllZip Q ys zs → AllZip S xs zs
zip-through P Q S joins [] [] [] p q = tt
zip-through P Q S joins [] [] (z ∷ zs) p q = absurd q
zip-through P Q S joins [] (y ∷ ys) zs p q = absurd p
zip-through P Q S joins (x ∷ xs) [] zs p q = absurd p
zip-through P Q S joins (x ∷ xs) (y ∷ ys) [] p q = absurd q
zip-through P Q S joins (x ∷ xs) (y ∷ ys) (z ∷ zs) p q = (joins x y z p.0 q.0, zip-through P Q S joins xs ys zs p.1 q.1)

-- A relation at each place is one of the lists.
pub zip-each : {A B : Type 0} (R : A → B → Type 0) (xs : List A) (ys : List B) → length ys ≡ length xs → ((k : ℕ) (x : A) (y : B) → k < length xs → R (get_or xs k x) (get_or ys k y)) → AllZip R xs ys
zip-each R [] [] same each = tt
zip-each R [] (y ∷ ys) same each = absurd (omega arith)
zip-each R (x ∷ xs) [] same each = absurd (omega arith)
zip-each R (x ∷ xs) (y ∷ ys) same each = (each 0 x y (omega arith), zip-each R xs ys (omega arith) (λ k v w less. each (suc k) v w (omega arith)))

-- The second list's items also satisfy Q.
pub zip-both : {A B : Type 0} (R : A → B → Type 0) (Q : B → Type 0) (xs : List A) (ys : List B) → AllZip R xs ys → All Q ys → AllZip (λ x y. R x y × Q y) xs ys
zip-both R Q [] [] all of = tt
zip-both R Q [] (y ∷ ys) all of = absurd all
zip-both R Q (x ∷ xs) [] all of = absurd all
zip-both R Q (x ∷ xs) (y ∷ ys) all of = ((all.0, of 0 y (omega arith)), zip-both R Q xs ys all.1 (λ k d less. of (suc k) d (omega arith)))

-- A list of no length.
pub nothing : {A : Type 0} (xs : List A) → length xs ≡ 0 → xs ≡ []
nothing [] none = refl
nothing (x ∷ xs) none = absurd (omega arith)

-- Two maps are one map.
pub map-map : {A B C : Type 0} (f : A → B) (g : B → C) (xs : List A) → map g (map f xs) ≡ map (λ x. g (f x)) xs
map-map f g [] = refl
map-map f g (x ∷ xs) = ap (λ zs. g (f x) ∷ zs) (map-map f g xs)

-- A greater bound bounds the same receipts.
pub up-still : (old new : Option ℕ) → ((tid : ℕ) → IsUpTo old tid → IsUpTo new tid) → (receipt : Option ToldReceipt) → HasReceiptUpTo old receipt → HasReceiptUpTo new receipt
up-still old new keeps None is = tt
up-still old new keeps (Some r) is = keeps r.tid is

-- The greatest so far is the earlier one, or that of a handle.
pub begins-one : (least : Option ℕ) (handles : List ToldHandle) → IfSome least (λ tid. (least ≡ Some tid) ⊎ IsOfHandle handles tid)
begins-one None handles = tt
begins-one (Some tid) handles = inl refl

pub still-one : (least old new : Option ℕ) (handles : List ToldHandle) (h : ToldHandle) → Contains handles h → IfSome old (λ tid. (least ≡ Some tid) ⊎ IsOfHandle handles tid) →
    (new ≡ old) ⊎ ((r : ToldReceipt) × (h.receipt ≡ Some r) × (new ≡ Some r.tid)) → IfSome new (λ tid. (least ≡ Some tid) ⊎ IsOfHandle handles tid)
still-one least old new handles h one was says =
    ⊎_elim (λ (same : new ≡ old). subst (λ (o : Option ℕ). IfSome o (λ tid. (least ≡ Some tid) ⊎ IsOfHandle handles tid)) (sym same) was)
    (λ (it : (r : ToldReceipt) × (h.receipt ≡ Some r) × (new ≡ Some r.tid)).
    subst (λ (o : Option ℕ). IfSome o (λ tid. (least ≡ Some tid) ⊎ IsOfHandle handles tid)) (sym it.2) (inr (record { handle = h; one = one; receipt = it.0; has = it.1; tid_is = refl })))
    says

-- It is the earlier one, or that of a client.
pub still-any : (old new : Option ℕ) (clients : Told) (c : Vec ToldHandle Global) → Contains clients c → IfSome old (IsOfClient clients) →
    IfSome new (λ tid. (old ≡ Some tid) ⊎ IsOfHandle c.items tid) → IfSome new (IsOfClient clients)
still-any old None clients c one was says = tt
still-any old (Some tid) clients c one was says =
    ⊎_elim (λ (same : old ≡ Some tid). subst (λ (o : Option ℕ). IfSome o (IsOfClient clients)) same was)
    (λ (is : IsOfHandle c.items tid). record { client = c; one = one; of_it = is }) says
