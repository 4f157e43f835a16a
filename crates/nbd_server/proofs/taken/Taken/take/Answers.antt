use Rattle.std.proofs.Common.{◌≡◌, ◌∙◌, ap, arith, refl, subst, sym, List, ℕ, Option}
use Rattle.std.specs.Io.KnownBytes.{Consumes}
use Rattle.nbd_protocol.specs.declared.request.Request.{Request}
use Rattle.nbd_server.specs.Causes.NotTaken.{NoBuffer}
use Rattle.nbd_server.specs.Input.{TakesPayload}
use Rattle.nbd_server.proofs.Refusing.{turned_away}
use Rattle.nbd_server.proofs.taken.Taken.take.Goals as goal

-- there is no memory for the bytes after it
pub returns-clause-refused : goal.returns-clause-refused
returns-clause-refused g c =
    let none = c.in_ok-came.ensures.none c.if-came.false in
    let is : c.args.asked.command ≡ 1 = ap (λ (r : Request). r.command) (sym c.request.ensures) ∙ none.0 in
    let skipped = subst (λ (at : Option (List ℕ)). (bytes : List ℕ) × TakesPayload c.args.asked (Consumes at (g.I.Read.remaining c.refuse-2.new.input)) bytes)
    none.1 c.in_ok-reply-2.ensures.skipped in
    turned_away _ _ c.args.asked _ 12 c.in_ok-reply-2.reply (omega arith) (NoBuffer is refl) c.in_ok-reply-2.ensures.refused skipped
