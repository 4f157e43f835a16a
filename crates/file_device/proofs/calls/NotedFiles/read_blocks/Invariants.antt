-- Each block so far is noted.
use Rattle.std.proofs.Common.{◌≡◌, ◌++◌}
use Rattle.file_device.specs.Blocks.{reads_of}
use Rattle.file_device.proofs.calls.NotedFiles.read_blocks.Given as goal

abbrev pub invariant-loop-k : goal.invariant-loop-k
invariant-loop-k l = record {
  log : l.self.log ≡ l.fn.self.log;
  home : l.self.home ≡ l.fn.self.home;
  noted : l.self.history.calls ≡ reads_of l.area l.at l.size l.into l.k ++ l.fn.self.history.calls;
}
