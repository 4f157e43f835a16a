-- Lemmas: operations from JSON values.
use Rattle.std.proofs.Common.{◌∙◌, ap, subst, sym}
use Rattle.std.specs.Prelude.{◌≡◌, ℕ, ◌+◌, ◌<◌, ◌++◌, List, [], ◌∷◌, Result, Ok, Err, Some, IfOk, get_or, length, map, take}
use Rattle.std.proofs.lemmas.List.{map-append, take_more}
use Rattle.serde_json.specs.Data.{Data}
use Rattle.serde_json.specs.Read.{read}
use Rattle.serde_json.specs.View.{view}
use Rattle.serde_json.specs.declared.value.Value.{Value}
use Rattle.journal_script.specs.Text.{AgreesWith, AreOperations, HasOperations, IsDefaultElse, IsOperation, IsScriptOf}
use Rattle.journal_script.specs.Text.AreOperations.{OneMore}
use Rattle.journal_script.specs.declared.script.Operation.{Operation}
use Rattle.journal_script.specs.declared.script.Script.{Script}

-- one more value is an operation
pub one-more : (operations : List Operation) (values : List Value) (i : ℕ) (operation : Operation) (value : Value) → i < length values → value ≡ get_or values i value
    → AreOperations operations (map view (take i values)) → IsOperation operation (view value) → AreOperations (operations ++ operation ∷ []) (map view (take (i + 1) values))
one-more operations values i operation value within is are one =
    subst (λ (ds : List Data). AreOperations (operations ++ operation ∷ []) ds)
    (sym (ap (map view) (take_more values i value within ∙ ap (λ (x : Value). take i values ++ x ∷ []) (sym is)) ∙ map-append view (take i values) (value ∷ [])))
    (OneMore operations (map view (take i values)) operation (view value) are one)

-- a script from the parts of its text
pub script-of : {E : Type 0} (text : List ℕ) (value : Data) (script : Result Script E) → read text ≡ Some value → IfOk script (λ s. HasOperations value s.operations.items)
    → IfOk script (λ s. AgreesWith value s.measures) → IfOk script (λ s. IsDefaultElse value s.measures) → IfOk script (λ s. IsScriptOf text s.operations.items s.measures)
script-of text value (Ok s) is has agrees defaults = record { of_text = record { script = value; is = is; has = has; agrees = agrees }; defaults = defaults }
script-of text value (Err e) is has agrees defaults = tt
