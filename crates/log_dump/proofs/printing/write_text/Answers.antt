use Rattle.std.proofs.Common.{ℕ, ◌+◌, ◌++◌, length, ap, List, [], map, refl, ◌∙◌, arith, inl, inr, subst}
use Rattle.std.specs.Prelude.{codes}
use Rattle.std.specs.Fmt.{decimal}
use Rattle.std.specs.Io.KnownBytes.{Appends}
use Rattle.std.specs.List.{join_with_byte}
use Rattle.std.proofs.lemmas.List.{length-take-le}
use Rattle.log_model.specs.declared.log.Tag.{Tag}
use Rattle.log_model.specs.declared.log.Piece.TheVariants.{Revokes}
use Rattle.journal_model.specs.Disk.{reading}
use Rattle.block_device.proofs.OneCall.{no-read, reads-on}
use Rattle.log_model.specs.Dump.{comma, piece_captions}
use Rattle.log_scan.specs.declared.finding.Found.TheVariants.{CommitBlock, Descriptor, Malformed, Nothing, RevokeBlock}
use Rattle.log_dump.specs.Lines.{placed_lines, tags_captions}
use Rattle.log_scan.specs.Finding.{every_block}
use Rattle.log_scan.proofs.ScanSteps.{accepted-stays, found-there}
use Rattle.log_dump.proofs.PrintingSteps.{line-placed, printed-none, printed-piece, printed-text, unprinted-malformed, unprinted-nothing}
use Rattle.log_dump.proofs.printing.write_text.Goals as goal

pub loop-numbers-init : goal.loop-numbers-init
loop-numbers-init g c = record {
  low = omega arith;
  within = c.requires.within;
  layout = refl;
  device = no-read;
  faults = refl;
  printed = λ h. printed-none c.args.log.now (reading (g.D.Device.state c.args.device.now).disk) c.args.sequence (g.W.Write.contents c.args.out.now) c.args.start;
}

pub loop-numbers-preserved-in-RevokeBlock : goal.loop-numbers-preserved-in-RevokeBlock
loop-numbers-preserved-in-RevokeBlock g c =
    let before = c.loop-numbers.invariant in
    let fits = rw c.in-RevokeBlock.is at c.in_ok-numbers.ensures.fits in
    let line =
    subst (λ (ns : List ℕ). Appends (g.W.Write.contents c.loop-numbers.out) (g.W.Write.contents c.write_revokes.new.out) (placed_lines c.args.log.now c.loop-numbers.position (piece_captions c.args.sequence (Revokes [] ns))))
    c.numbers.ensures
    (line-placed c.args.log.now c.loop-numbers.position c.place-place.result
    (codes "revoke " ++ decimal c.args.sequence ++ codes " blocks=" ++ join_with_byte comma (map decimal c.numbers.result.now))
    (g.W.Write.contents c.loop-numbers.out) (g.W.Write.contents c.write_revokes.new.out) c.place-place.ensures.place c.in_ok-write_revokes-in-RevokeBlock.ensures) in record {
      low = let low = before.low in omega arith;
      within = fits.1;
      layout = c.look.ensures.layout ∙ before.layout;
      device = reads-on before.device c.look.ensures.device;
      faults = c.in_ok-numbers.ensures.faults ∙ before.faults;
      printed =
          λ h. let is = found-there c.args.log.now (every_block c.args.log.now) (g.D.Device.state c.args.device.now) (g.D.Device.state c.loop-numbers.device) c.args.sequence c.args.sequence c.loop-numbers.position c.look.new.self
          (RevokeBlock c.in-RevokeBlock.numbers) refl before.device.stays (rw c.in-RevokeBlock.is at (c.in_ok-numbers.ensures.found h)) in
          printed-piece c.args.log.now (reading (g.D.Device.state c.args.device.now).disk) c.args.sequence (g.W.Write.contents c.args.out.now) (g.W.Write.contents c.loop-numbers.out)
          c.args.start c.loop-numbers.position (before.printed (c.look.ensures.device.honest h)) (g.W.Write.contents c.write_revokes.new.out) _ 1 (c.loop-numbers.position + 1) refl is.begins line;
    }

pub loop-numbers-preserved : goal.loop-numbers-preserved
loop-numbers-preserved g c =
    let before = c.loop-numbers.invariant in
    let fits = rw c.in-Descriptor.is at c.in_ok-numbers.ensures.fits in
    let line =
    subst (λ (ts : List Tag). Appends (g.W.Write.contents c.loop-numbers.out) (g.W.Write.contents c.write_copies.new.out) (placed_lines c.args.log.now c.loop-numbers.position (tags_captions c.args.sequence ts)))
    c.tags.ensures c.in_ok-write_copies-in-Descriptor.ensures in record {
      low = let low = before.low in omega arith;
      within = let low = fits.1 in omega arith;
      layout = c.look.ensures.layout ∙ before.layout;
      device = reads-on before.device c.look.ensures.device;
      faults = c.in_ok-numbers.ensures.faults ∙ before.faults;
      printed =
          λ h. let is = found-there c.args.log.now (every_block c.args.log.now) (g.D.Device.state c.args.device.now) (g.D.Device.state c.loop-numbers.device) c.args.sequence c.args.sequence c.loop-numbers.position c.look.new.self
          (Descriptor c.in-Descriptor.tags) refl before.device.stays (rw c.in-Descriptor.is at (c.in_ok-numbers.ensures.found h)) in
          printed-piece c.args.log.now (reading (g.D.Device.state c.args.device.now).disk) c.args.sequence (g.W.Write.contents c.args.out.now) (g.W.Write.contents c.loop-numbers.out)
          c.args.start c.loop-numbers.position (before.printed (c.look.ensures.device.honest h)) (g.W.Write.contents c.write_copies.new.out) _ (1 + c.in-Descriptor.tags)
          (c.loop-numbers.position + (1 + c.in-Descriptor.tags)) refl is.begins line;
    }

pub returns-in-CommitBlock-clause-printed : goal.returns-in-CommitBlock-clause-printed
returns-in-CommitBlock-clause-printed g c = λ h.
    let before = c.loop-numbers.invariant in
    printed-text c.args.log.now (reading (g.D.Device.state c.args.device.now).disk) c.args.sequence (g.W.Write.contents c.args.out.now) (g.W.Write.contents c.loop-numbers.out)
    c.args.start c.loop-numbers.position (before.printed (c.look.ensures.device.honest h)) (g.W.Write.contents c.write_commit.new.out)
    (found-there c.args.log.now (every_block c.args.log.now) (g.D.Device.state c.args.device.now) (g.D.Device.state c.loop-numbers.device) c.args.sequence c.args.sequence c.loop-numbers.position c.look.new.self
    CommitBlock refl before.device.stays (rw c.in-CommitBlock.is at (c.in_ok-numbers.ensures.found h)))
    (line-placed c.args.log.now c.loop-numbers.position c.place-place.result (codes "commit " ++ decimal c.args.sequence)
    (g.W.Write.contents c.loop-numbers.out) (g.W.Write.contents c.write_commit.new.out) c.place-place.ensures.place c.in_ok-write_commit-in-CommitBlock.ensures)

-- a malformed block, or nothing of the transaction
pub returns-in-Malformed-clause-refused : goal.returns-in-Malformed-clause-refused
returns-in-Malformed-clause-refused g c =
    let before = c.loop-numbers.invariant in
    inr (
      record { place = c.place-place.result; from = c.place-place.ensures.ring; below = c.place-place.ensures.there; refusal = refl },
      c.in_ok-numbers.ensures.faults ∙ before.faults,
      λ h. elim c.in-Malformed.is [
        | inl bad ↦
            unprinted-malformed c.args.log.now (reading (g.D.Device.state c.args.device.now).disk) c.args.sequence (g.W.Write.contents c.args.out.now) (g.W.Write.contents c.loop-numbers.out)
            c.args.start c.loop-numbers.position (before.printed (c.look.ensures.device.honest h))
            (found-there c.args.log.now (every_block c.args.log.now) (g.D.Device.state c.args.device.now) (g.D.Device.state c.loop-numbers.device) c.args.sequence c.args.sequence c.loop-numbers.position c.look.new.self
            Malformed refl before.device.stays (rw bad at (c.in_ok-numbers.ensures.found h)))
        | inr nothing ↦
            unprinted-nothing c.args.log.now (reading (g.D.Device.state c.args.device.now).disk) c.args.sequence (g.W.Write.contents c.args.out.now) (g.W.Write.contents c.loop-numbers.out)
            c.args.start c.loop-numbers.position (before.printed (c.look.ensures.device.honest h))
            (found-there c.args.log.now (every_block c.args.log.now) (g.D.Device.state c.args.device.now) (g.D.Device.state c.loop-numbers.device) c.args.sequence c.args.sequence c.loop-numbers.position c.look.new.self
            Nothing refl before.device.stays (rw nothing at (c.in_ok-numbers.ensures.found h)))
      ],
    )

-- the device's shape stays, so the log is accepted there
pub look-requires-clause-accepted : goal.look-requires-clause-accepted
look-requires-clause-accepted g c =
    accepted-stays c.args.log.now (g.D.Device.state c.args.device.now) (g.D.Device.state c.loop-numbers.device) c.loop-numbers.invariant.device.stays c.requires.accepted

-- each step stays within the ring
pub loop-numbers-smaller : goal.loop-numbers-smaller
loop-numbers-smaller g c = let fits = rw c.in-Descriptor.is at c.in_ok-numbers.ensures.fits in let low = fits.1 in omega arith

pub loop-numbers-smaller-in-RevokeBlock : goal.loop-numbers-smaller-in-RevokeBlock
loop-numbers-smaller-in-RevokeBlock g c = let fits = rw c.in-RevokeBlock.is at c.in_ok-numbers.ensures.fits in let low = fits.1 in omega arith

pub overflow_add-position-in-Descriptor : goal.overflow_add-position-in-Descriptor
overflow_add-position-in-Descriptor g c = let fits = rw c.in-Descriptor.is at c.in_ok-numbers.ensures.fits in let low = fits.1 in omega arith

pub overflow_add-position-in-Descriptor-2 : goal.overflow_add-position-in-Descriptor-2
overflow_add-position-in-Descriptor-2 g c = let fits = rw c.in-Descriptor.is at c.in_ok-numbers.ensures.fits in let low = fits.1 in omega arith

pub write_copies-requires-clause-within : goal.write_copies-requires-clause-within
write_copies-requires-clause-within g c =
    let fits = rw c.in-Descriptor.is at c.in_ok-numbers.ensures.fits in let low = fits.1 in let count = ap length c.tags.ensures in let all = length-take-le c.in-Descriptor.tags c.look.new.self.tags fits.0 in omega arith

pub numbers-requires : goal.numbers-requires
numbers-requires g c = let fits = rw c.in-RevokeBlock.is at c.in_ok-numbers.ensures.fits in fits.0

pub tags-requires : goal.tags-requires
tags-requires g c = let fits = rw c.in-Descriptor.is at c.in_ok-numbers.ensures.fits in fits.0

pub returns-in-CommitBlock-clause-within : goal.returns-in-CommitBlock-clause-within
returns-in-CommitBlock-clause-within g c =
    let fits = rw c.in-CommitBlock.is at c.in_ok-numbers.ensures.fits in let low = c.loop-numbers.invariant.low in (omega arith, fits)

pub returns-in_err-numbers-clause-device : goal.returns-in_err-numbers-clause-device
returns-in_err-numbers-clause-device g c = reads-on c.loop-numbers.invariant.device c.look.ensures.device

pub returns-in_err-write_revokes-in-RevokeBlock-clause-device : goal.returns-in_err-write_revokes-in-RevokeBlock-clause-device
returns-in_err-write_revokes-in-RevokeBlock-clause-device g c = reads-on c.loop-numbers.invariant.device c.look.ensures.device

pub returns-in_err-write_copies-in-Descriptor-clause-device : goal.returns-in_err-write_copies-in-Descriptor-clause-device
returns-in_err-write_copies-in-Descriptor-clause-device g c = reads-on c.loop-numbers.invariant.device c.look.ensures.device

pub returns-in_err-write_commit-in-CommitBlock-clause-device : goal.returns-in_err-write_commit-in-CommitBlock-clause-device
returns-in_err-write_commit-in-CommitBlock-clause-device g c = reads-on c.loop-numbers.invariant.device c.look.ensures.device

pub returns-in-CommitBlock-clause-device : goal.returns-in-CommitBlock-clause-device
returns-in-CommitBlock-clause-device g c = reads-on c.loop-numbers.invariant.device c.look.ensures.device

pub returns-in-Malformed-clause-device : goal.returns-in-Malformed-clause-device
returns-in-Malformed-clause-device g c = reads-on c.loop-numbers.invariant.device c.look.ensures.device

pub returns-in_err-numbers-clause-layout : goal.returns-in_err-numbers-clause-layout
returns-in_err-numbers-clause-layout g c = c.look.ensures.layout ∙ c.loop-numbers.invariant.layout

pub returns-in_err-write_revokes-in-RevokeBlock-clause-layout : goal.returns-in_err-write_revokes-in-RevokeBlock-clause-layout
returns-in_err-write_revokes-in-RevokeBlock-clause-layout g c = c.look.ensures.layout ∙ c.loop-numbers.invariant.layout

pub returns-in_err-write_copies-in-Descriptor-clause-layout : goal.returns-in_err-write_copies-in-Descriptor-clause-layout
returns-in_err-write_copies-in-Descriptor-clause-layout g c = c.look.ensures.layout ∙ c.loop-numbers.invariant.layout

pub returns-in_err-write_commit-in-CommitBlock-clause-layout : goal.returns-in_err-write_commit-in-CommitBlock-clause-layout
returns-in_err-write_commit-in-CommitBlock-clause-layout g c = c.look.ensures.layout ∙ c.loop-numbers.invariant.layout

pub returns-in-CommitBlock-clause-layout : goal.returns-in-CommitBlock-clause-layout
returns-in-CommitBlock-clause-layout g c = c.look.ensures.layout ∙ c.loop-numbers.invariant.layout

pub returns-in-Malformed-clause-layout : goal.returns-in-Malformed-clause-layout
returns-in-Malformed-clause-layout g c = c.look.ensures.layout ∙ c.loop-numbers.invariant.layout

pub returns-in-CommitBlock-clause-faults : goal.returns-in-CommitBlock-clause-faults
returns-in-CommitBlock-clause-faults g c = c.in_ok-numbers.ensures.faults ∙ c.loop-numbers.invariant.faults
