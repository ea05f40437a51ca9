use Rattle.std.proofs.Common.{◌≡◌, ◌<◌, ◌≤◌, length, get_or, arith}
use Rattle.wasm_module.proofs.TypeLemmas.{none_written, one_written, all_written}
use Rattle.wasm_module.proofs.parsed.ParsedModule.write_types.Goals as goal

pub types-init : goal.types-init
types-init c = none_written c.args.self.now.spaces.numbers c.args.types.now c.write_number.new.out.items

pub types-preserved : goal.types-preserved
types-preserved c =
    let at = c.types in
    let types = c.args.types.now in
    let item = c.ty-item.result in
    let is : item ≡ get_or types at.ty-index item = cc in
    let within : at.ty-index < length types = omega arith in
    let made = c.in-Ok-write_type.ensures in
    one_written c.args.self.now.spaces.numbers types at.ty-index c.write_number.new.out.items at.out.items c.write_type.new.out.items item made.0 within is
    at.invariant made.1 made.2

pub returns : goal.returns
returns c =
    let at = c.types in
    let end : length c.args.types.now ≤ at.ty-index = omega arith in
    all_written c.args.self.now.spaces.numbers c.args.types.now at.ty-index c.args.out.now.items c.write_number.new.out.items at.out.items end c.in-Ok.ensures.written
    at.invariant
