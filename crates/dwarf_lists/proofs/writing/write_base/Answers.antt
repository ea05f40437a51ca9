use Rattle.std.proofs.Common.{◌++◌}
use Rattle.dwarf_bytes.specs.Numbers.{size_in_bytes}
use Rattle.dwarf_bytes.specs.Writing.{fixed_bytes}
use Rattle.dwarf_lists.proofs.Written.{base_read}
use Rattle.dwarf_lists.proofs.writing.write_base.Goals as goal

pub returns-clause-written : goal.returns-clause-written
returns-clause-written c =
    let n = size_in_bytes c.args.size in
    let written = c.in_ok-write_pair.ensures in (
      fixed_bytes n c.greatest.result ++ fixed_bytes n c.args.address,
      written.written,
      (tt, λ following. base_read c.args.kind c.args.size c.greatest.result c.args.address following c.greatest.ensures written.one written.other),
    )
