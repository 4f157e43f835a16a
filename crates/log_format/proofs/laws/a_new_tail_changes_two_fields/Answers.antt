-- Each field is before the tail, in it, or after it.
use Rattle.std.proofs.Common.{◌≤◌, ap, arith, length, take}
use Rattle.log_format.proofs.Superblocks.{before_tail, behind_tail, rest_of_tail, sequence_of_tail, start_of_tail}
use Rattle.log_format.proofs.laws.a_new_tail_changes_two_fields.Goals as goal

pub returns : goal.returns
returns c block sequence start size small small_start =
    let long : 24 ≤ length block = omega arith in
    let e1 = before_tail 0x0c block sequence start (omega arith) long in
    let e2 = before_tail 0x10 block sequence start (omega arith) long in
    let e3 = before_tail 0x14 block sequence start (omega arith) long in
    let e4 = sequence_of_tail block sequence start long small in
    let e5 = start_of_tail block sequence start long small_start in
    let e6 = behind_tail 0 block sequence start long in
    let e7 = behind_tail 4 block sequence start long in
    let e8 = behind_tail 8 block sequence start long in
    let e9 = behind_tail 12 block sequence start long in
    let e10 = ap (take 16) (rest_of_tail 16 block sequence start long) in
    let e11 = behind_tail 32 block sequence start long in
    cc
