use Rattle.wasm_module.proofs.SectionsReadLemmas.{nothing_read, unread_is}
use Rattle.wasm_module.proofs.parsed.ParsedModule.unread.Goals as goal

pub returns-clause-read : goal.returns-clause-read
returns-clause-read c =
    let spaces = c.new-4.ensures in
    nothing_read _ c.new-4.result (unread_is c.new.result c.new-2.result c.new-5.result.items c.new-4.result.counts c.new.ensures c.new-2.ensures c.new-5.ensures.items spaces.counts)
    spaces.indices spaces.numbers spaces.counts spaces.more_imports spaces.more_functions
