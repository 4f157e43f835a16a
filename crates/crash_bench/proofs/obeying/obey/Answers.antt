use Rattle.jbench_commands.proofs.Ending.{never-wrong}
use Rattle.crash_bench.proofs.obeying.obey.Goals as goal

-- clients ran in threads
pub returns-in-Threads-clause-done : goal.returns-in-Threads-clause-done
returns-in-Threads-clause-done g c = rw c.in-Threads.is c.threads_file.ensures.done

pub returns-in-Threads-clause-wrong : goal.returns-in-Threads-clause-wrong
returns-in-Threads-clause-wrong g c = rw c.in-Threads.is c.threads_file.ensures.wrong

-- clients of a bench or of a server ran in threads
pub returns-in-Bench-clause-done : goal.returns-in-Bench-clause-done
returns-in-Bench-clause-done g c = rw c.in-Bench.is c.bench_files.ensures.done

pub returns-in-Serve-clause-done : goal.returns-in-Serve-clause-done
returns-in-Serve-clause-done g c = rw c.in-Serve.is c.serve_files.ensures.done

-- these commands do not end with 2
pub returns-in-Bench-clause-wrong : goal.returns-in-Bench-clause-wrong
returns-in-Bench-clause-wrong g c = rw c.in-Bench.is (never-wrong c.bench_files.result c.bench_files.ensures.other)

pub returns-in-Serve-clause-wrong : goal.returns-in-Serve-clause-wrong
returns-in-Serve-clause-wrong g c = rw c.in-Serve.is (never-wrong c.serve_files.result c.serve_files.ensures.other)

-- a command that starts no thread
pub returns-in-OneThread-clause-done : goal.returns-in-OneThread-clause-done
returns-in-OneThread-clause-done g c = rw c.in-OneThread.is c.obey.ensures.done

pub returns-in-OneThread-clause-wrong : goal.returns-in-OneThread-clause-wrong
returns-in-OneThread-clause-wrong g c = rw c.in-OneThread.is (never-wrong c.obey.result c.obey.ensures.other)
