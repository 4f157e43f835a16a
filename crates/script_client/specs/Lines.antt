-- The line that is printed for an operation: the operation, and its outcome.
use Rattle.std.specs.Prelude.{ℕ, ◌/◌, ◌%◌, ◌++◌, false, List, [], ◌∷◌, codes}
use Rattle.std.specs.Fmt.{decimal, digit_glyph}
use Rattle.std.specs.List.{flat_map}
use Rattle.journal_model.specs.declared.refusal.JournalError.{JournalError}
use Rattle.journal_model.specs.Refusal.{number_of, refusal_text}
use Rattle.journal_script.specs.declared.script.Operation.{Operation}
use Rattle.journal_script.specs.Line.{operation_text}
use Rattle.journal_steps.specs.declared.turn.CheckTurn.{CheckTurn as CommitCheckTurn}
use Rattle.journal_steps.specs.declared.turn.CheckTurn.TheVariants.{Idle as IdleCheck, Step as StepCheck, Released}
use Rattle.journal_steps.specs.declared.turn.Turn.{Turn as CommitTurn}
use Rattle.journal_steps.specs.declared.turn.Turn.TheVariants.{Idle, Waiting, Step, Sealed, Committed as Commits}
use Rattle.log_model.specs.Dump.{newline}
use Rattle.script_client.specs.declared.outcome.OperationOutcome.{OperationOutcome}
use Rattle.script_client.specs.declared.outcome.OperationOutcome.TheVariants.{Begins, CheckTurn, Committed, Done, Open, Refused, Skipped, Transaction, Turn}

-- a byte as two hex digits, and bytes as hex digits
abbrev pub hex_digits : ℕ → List ℕ
hex_digits byte = digit_glyph false (byte / 16) ∷ digit_glyph false (byte % 16) ∷ []

abbrev pub hex_text : List ℕ → List ℕ
hex_text bytes = flat_map hex_digits bytes

-- an action on a transaction: the word and the number
abbrev pub done_text : List ℕ → ℕ → List ℕ
done_text done tid = done ++ codes " " ++ decimal tid

-- the outcome of a commit turn, and of a checkpoint turn
abbrev pub turn_text : CommitTurn → List ℕ
turn_text Idle = codes "idle"
turn_text Waiting = codes "waiting"
turn_text Step = codes "step"
turn_text (Sealed tid) = done_text (codes "sealed") tid
turn_text (Commits tid) = done_text (codes "committed") tid

abbrev pub check_turn_text : CommitCheckTurn → List ℕ
check_turn_text IdleCheck = codes "idle"
check_turn_text StepCheck = codes "step"
check_turn_text (Released tid) = done_text (codes "released") tid

-- a refusal: its number and its name
abbrev pub refused_text : JournalError → List ℕ
refused_text e = codes "refused " ++ decimal (number_of e) ++ codes " " ++ refusal_text e

-- an outcome
abbrev pub outcome_text : OperationOutcome → List ℕ
outcome_text (Transaction tid) = decimal tid
outcome_text Done = codes "ok"
outcome_text (Begins bytes) = hex_text bytes
outcome_text (Turn turn) = turn_text turn
outcome_text (CheckTurn turn) = check_turn_text turn
outcome_text (Committed tid) = codes "committed"
outcome_text Open = codes "open"
outcome_text Skipped = codes "skipped"
outcome_text (Refused e) = refused_text e

abbrev pub line_of : Operation → OperationOutcome → List ℕ
line_of operation outcome = operation_text operation ++ codes " = " ++ outcome_text outcome ++ newline ∷ []
