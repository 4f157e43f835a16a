-- Each field is before the features, or after them.
use Rattle.std.proofs.Common.{◌≤◌, ap, arith, length, take}
use Rattle.log_format.proofs.Widening.{before_features, behind_features, new_features, rest_of_features}
use Rattle.log_format.proofs.laws.a_widened_superblock_changes_one_field.Goals as goal

pub returns : goal.returns
returns c block size =
    let long : 0x28 ≤ length block = omega arith in
    let e1 = before_features 0x0c block (omega arith) long in
    let e2 = before_features 0x10 block (omega arith) long in
    let e3 = before_features 0x14 block (omega arith) long in
    let e4 = before_features 0x18 block (omega arith) long in
    let e5 = before_features 0x1c block (omega arith) long in
    let e6 = before_features 0x20 block (omega arith) long in
    let e7 = before_features 0x24 block (omega arith) long in
    let e8 = new_features block long in
    let e9 = behind_features 0 block long in
    let e10 = ap (take 16) (rest_of_features 4 block long) in
    let e11 = behind_features 0x14 block long in
    cc
