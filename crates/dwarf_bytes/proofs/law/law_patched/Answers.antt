use Rattle.std.proofs.Common.{arith}
use Rattle.dwarf_bytes.proofs.ChangeLaws.{follows, kept}
use Rattle.dwarf_bytes.proofs.law.law_patched.Goals as goal

pub returns-clause-follows : goal.returns-clause-follows
returns-clause-follows c = λ cs section o order within outside. follows 0 cs section o order (omega arith) within outside

pub returns-clause-others : goal.returns-clause-others
returns-clause-others c = kept
