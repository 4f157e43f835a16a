-- Lemmas: clients with one more operation, touch or handle.
use Rattle.std.proofs.Common.{◌∙◌, sym, ap, subst, Vec, Global}
use Rattle.std.specs.Prelude.{◌≡◌, ℕ, ◌+◌, ◌<◌, ◌++◌, List, [], ◌∷◌, Result, Ok, Err, Some, IfOk, true, get_or, length, map, take, All, Contains}
use Rattle.std.specs.List.{AllZip}
use Rattle.std.proofs.lemmas.List.{map-append, take_more}
use Rattle.std.proofs.lemmas.List.Elements.{All-more, All-push, All-weaker}
use Rattle.serde_json.specs.Data.{Data}
use Rattle.serde_json.specs.Read.{read}
use Rattle.serde_json.specs.View.{view}
use Rattle.serde_json.specs.declared.value.Value.{Value}
use Rattle.journal_script.specs.Clients.{HasClients, HasTouched, HasTouchedAll, IsClientOperation, IsClientScriptOf, IsServable, handles_of, touched}
use Rattle.journal_script.specs.Text.{AgreesWith, IsDefaultElse}
use Rattle.journal_script.specs.declared.clients.ClientHandle.{ClientHandle}
use Rattle.journal_script.specs.declared.clients.ClientOperation.{ClientOperation}
use Rattle.journal_script.specs.declared.clients.ClientScript.{ClientScript}
use Rattle.journal_script.specs.declared.clients.ClientTouch.{ClientTouch}

-- a fact of each item so far holds with one more
pub all-more : {A : Type 0} (P : A → Type 0) (xs : List A) (i : ℕ) (x : A) → i < length xs → x ≡ get_or xs i x → All P (take i xs) → P x → All P (take (i + 1) xs)
all-more P xs i x less is all one = All-more P xs i x less all (subst P is one)

-- a longer list has the blocks of these touches too
pub touched-still : (touches : List ClientTouch) (old new : List ℕ) → ((b : ℕ) → Contains old b → Contains new b) → HasTouched touches old → HasTouched touches new
touched-still touches old new keeps has = All-weaker (λ (t : ClientTouch). Contains old (touched t)) (λ (t : ClientTouch). Contains new (touched t)) (λ t. keeps (touched t)) touches has

pub touched-all-still : (handles : List ClientHandle) (old new : List ℕ) → ((b : ℕ) → Contains old b → Contains new b) → HasTouchedAll handles old → HasTouchedAll handles new
touched-all-still handles old new keeps has =
    All-weaker (λ (h : ClientHandle). HasTouched h.touches.items old) (λ (h : ClientHandle). HasTouched h.touches.items new) (λ h. touched-still h.touches.items old new keeps) handles has

-- a relation of two lists holds with one more on both
pub zip-more : {A B : Type 0} (R : A → B → Type 0) (xs : List A) (ys : List B) (x : A) (y : B) → AllZip R xs ys → R x y → AllZip R (xs ++ x ∷ []) (ys ++ y ∷ [])
zip-more R [] [] x y all one = (one, tt)
zip-more R [] (z ∷ ys) x y all one = absurd all
zip-more R (w ∷ xs) [] x y all one = absurd all
zip-more R (w ∷ xs) (z ∷ ys) x y all one = (all.0, zip-more R xs ys x y all.1 one)

-- one more value was read
pub reads-more : {A : Type 0} (R : A → Data → Type 0) (xs new : List A) (values : List Value) (i : ℕ) (x : A) (value : Value) → i < length values → value ≡ get_or values i value
    → new ≡ xs ++ x ∷ [] → AllZip R xs (map view (take i values)) → R x (view value) → AllZip R new (map view (take (i + 1) values))
reads-more {A} R xs new values i x value less is adds all one =
    subst (λ (ds : List Data). AllZip R new ds)
    (sym (ap (map view) (take_more values i value less ∙ ap (λ (v : Value). take i values ++ v ∷ []) (sym is)) ∙ map-append view (take i values) (value ∷ [])))
    (subst (λ (zs : List A). AllZip R zs (map view (take i values) ++ view value ∷ [])) (sym adds) (zip-more R xs (map view (take i values)) x (view value) all one))

-- the items of vectors, with one more
pub items-more : {A : Type 0} (vs : List (Vec A Global)) (i : ℕ) (v : Vec A Global) → i < length vs → v ≡ get_or vs i v
    → map (λ (w : Vec A Global). w.items) (take (i + 1) vs) ≡ map (λ (w : Vec A Global). w.items) (take i vs) ++ v.items ∷ []
items-more {A} vs i v less is =
    ap (map (λ (w : Vec A Global). w.items)) (take_more vs i v less ∙ ap (λ (w : Vec A Global). take i vs ++ w ∷ []) (sym is)) ∙ map-append (λ (w : Vec A Global). w.items) (take i vs) (v ∷ [])

-- waiting for a handle does not change whether it can be served
pub waits-served : (capacity home_blocks : ℕ) (h : ClientHandle) → IsServable capacity home_blocks h → IsServable capacity home_blocks (record h { waits = true })
waits-served capacity home_blocks h is = record { few = is.few; there = is.there; different = is.different; enough = is.enough; has = is.has }

-- a script from the parts of its text
pub clients-of : {E : Type 0} (text : List ℕ) (value : Data) (script : Result ClientScript E) → read text ≡ Some value → IfOk script (λ s. HasClients value (handles_of s))
    → IfOk script (λ s. AgreesWith value s.measures) → IfOk script (λ s. IsDefaultElse value s.measures) → IfOk script (IsClientScriptOf text)
clients-of text value (Ok s) is has agrees defaults = record { value = value; is = is; has = has; agrees = agrees; defaults = defaults }
clients-of text value (Err e) is has agrees defaults = tt
