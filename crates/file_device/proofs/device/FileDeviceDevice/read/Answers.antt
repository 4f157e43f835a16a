use Rattle.file_device.proofs.KeptAhead.{answer-agreed, answer-stays}
use Rattle.file_device.proofs.device.FileDeviceDevice.read.Goals as goal

pub returns-clause-stays : goal.returns-clause-stays
returns-clause-stays g c = answer-stays c.read_file.result g.C.Contents.contents c.args.self.now _ _ _ _ c.count_call.ensures c.read_file.ensures.ok c.read_file.ensures.err

pub returns-clause-honest : goal.returns-clause-honest
returns-clause-honest g c = answer-agreed c.read_file.result g.C.Contents.contents c.args.self.now _ _ _ _ c.count_call.ensures c.read_file.ensures.ok c.read_file.ensures.err
