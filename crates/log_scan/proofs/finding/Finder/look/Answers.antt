use Rattle.std.proofs.Common.{◌≡◌, refl, ℕ, ◌-◌, ap, ◌∙◌, arith}
use Rattle.journal_model.specs.declared.number.Area.TheVariants.{Log}
use Rattle.journal_model.specs.Layout.{Layout}
use Rattle.log_format.specs.Size.{count_of}
use Rattle.log_model.specs.Superblock.{Super}
use Rattle.journal_model.specs.Disk.{reading}
use Rattle.log_model.specs.Opening.{layout_of}
use Rattle.log_scan.specs.Finding.{FinderValue, Says, limit_of}
use Rattle.log_scan.proofs.Fronts.{found-none}
use Rattle.log_scan.proofs.Laps.{from-end}
use Rattle.log_scan.proofs.Looking.{found-at, says-same}
use Rattle.log_scan.proofs.finding.Finder.look.Goals as goal

-- the ring ends
pub returns-then-position-blocks-clause-found : goal.returns-then-position-blocks-clause-found
returns-then-position-blocks-clause-found g c = λ honest.
    found-none (layout_of c.args.log.now) (limit_of c.args.log.now c.args.home_blocks) c.args.sequence _ c.args.self.now
    (from-end c.args.log.now (reading (g.D.Device.state c.args.device.now).disk) c.args.position (omega arith))

-- the block at the position was read, if reads are correct
pub returns-clause-found : goal.returns-clause-found
returns-clause-found g c = λ honest.
    let s : Super = c.args.log.now in
    let layout : c.self.inside.layout ≡ layout_of s = ap (λ (f : FinderValue). f.layout) c.self.view_is ∙ c.requires.layout in
    let limit : count_of c.self.inside.layout c.args.home_blocks ≡ limit_of s c.args.home_blocks = ap (λ (l : Layout). count_of l c.args.home_blocks) layout in
    let says : Says (layout_of s) (limit_of s c.args.home_blocks) c.args.sequence (c.blocks-3.result - c.args.position - 1) c.read.new.self c.parse.new.self c.parse.result =
    says-same c.args.sequence (c.blocks-3.result - c.args.position - 1) c.parse.new.self c.parse.result layout limit refl c.parse.ensures.says in
    found-at s (limit_of c.args.log.now c.args.home_blocks) (reading (g.D.Device.state c.args.device.now).disk) c.args.sequence c.args.position (c.blocks-3.result - c.args.position - 1) c.read.new.self c.parse.new.self c.parse.result
    (omega arith) (omega arith)
    (c.in_ok-read.ensures.bytes honest ∙ ap (λ (place : ℕ). reading (g.D.Device.state c.args.device.now).disk Log place) c.place.ensures.place) says
