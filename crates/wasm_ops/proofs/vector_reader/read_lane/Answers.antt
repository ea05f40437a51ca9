use Rattle.wasm_operators.specs.Meaning.{meaning}
use Rattle.wasm_ops.proofs.VectorRanges.{lane_read, lane_missing}
use Rattle.wasm_ops.proofs.vector_reader.read_lane.Goals as goal

pub returns-in-Ok : goal.returns-in-Ok
returns-in-Ok c = lane_read c.args.number (meaning c.lane.result) c.args.bytes.now c.in-Ok.rest.now c.in-Ok.idx c.requires.low c.requires.high c.in-Ok.ensures c.lane.ensures

pub returns-in-Err : goal.returns-in-Err
returns-in-Err c = lane_missing c.args.number c.args.bytes.now c.in-Err.fault c.requires.low c.requires.high c.in-Err.ensures
