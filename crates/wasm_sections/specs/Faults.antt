-- The faults of a module that the errors of the crates below become, where a function is changed.
use Rattle.walrus_ir.specs.declared.error.WalkError.{WalkError}
use Rattle.walrus_ir.specs.declared.error.WalkError.TheVariants as walk
use Rattle.wasm_body.specs.declared.error.EmitError.{EmitError}
use Rattle.wasm_body.specs.declared.error.EmitError.TheVariants as emit
use Rattle.wasm_body.specs.declared.error.IndexError.{IndexError}
use Rattle.wasm_body.specs.declared.error.IndexError.TheVariants as index
use Rattle.wasm_body.specs.declared.error.ParseError.{ParseError}
use Rattle.wasm_body.specs.declared.error.ParseError.TheVariants as parse
use Rattle.wasm_sections.specs.declared.fault.ModuleFault.{ModuleFault}
use Rattle.wasm_sections.specs.declared.fault.ModuleFault.TheVariants as fault

-- of an index that code contains, or of an id
abbrev pub index_fault : IndexError → ModuleFault
index_fault (index.OutOfRange s i) = fault.Index (index.OutOfRange s i)
index_fault (index.NoLocals f) = fault.Index (index.NoLocals f)
index_fault (index.Unnumbered s) = fault.Index (index.Unnumbered s)
index_fault index.TooMany = fault.Index index.TooMany
index_fault index.Memory = fault.Memory
index_fault (index.LocalOutOfRange f i) = fault.LocalOutOfRange

-- of an index that a section contains
abbrev pub section_index_fault : IndexError → ModuleFault
section_index_fault (index.OutOfRange s i) = fault.IndexOutOfRange s i
section_index_fault (index.NoLocals f) = fault.LocalOutOfRange
section_index_fault (index.Unnumbered s) = fault.TooGreat
section_index_fault index.TooMany = fault.TooGreat
section_index_fault index.Memory = fault.Memory
section_index_fault (index.LocalOutOfRange f i) = fault.LocalOutOfRange

-- of a function that can't be walked over
abbrev pub walk_fault : WalkError → ModuleFault
walk_fault walk.UnknownSequence = fault.Emit emit.UnknownSequence
walk_fault walk.SharedSequence = fault.Emit emit.SharedSequence
walk_fault walk.Memory = fault.Memory
walk_fault walk.TooLarge = fault.Emit emit.TooLarge

-- of a body that isn't accepted; the validator refuses locals that the function doesn't have
abbrev pub parse_fault : ParseError → ModuleFault
parse_fault (parse.Read e) = fault.Read e.fault
parse_fault (parse.Checked code) = fault.LocalOutOfRange
parse_fault (parse.Index e) = index_fault e
parse_fault parse.Memory = fault.Memory
parse_fault parse.PlaceTooGreat = fault.Parse parse.PlaceTooGreat
parse_fault parse.NoSuchLabel = fault.Parse parse.NoSuchLabel
parse_fault parse.NotAFunctionType = fault.Parse parse.NotAFunctionType
parse_fault parse.TypeMissing = fault.Parse parse.TypeMissing
parse_fault parse.EntryTypeMissing = fault.Parse parse.EntryTypeMissing
parse_fault parse.ElseOutsideIf = fault.Parse parse.ElseOutsideIf
parse_fault parse.CatchOutsideTry = fault.Parse parse.CatchOutsideTry
parse_fault parse.DelegateOutsideTry = fault.Parse parse.DelegateOutsideTry
parse_fault parse.RethrowOutsideHandler = fault.Parse parse.RethrowOutsideHandler
parse_fault parse.Trailing = fault.Parse parse.Trailing
parse_fault parse.MissingEnd = fault.Parse parse.MissingEnd
parse_fault parse.NoTry = fault.Parse parse.NoTry
parse_fault parse.NoFrame = fault.Parse parse.NoFrame
parse_fault parse.UnknownId = fault.Parse parse.UnknownId

-- of a function that can't be written
abbrev pub emit_fault : EmitError → ModuleFault
emit_fault (emit.Index e) = index_fault e
emit_fault emit.Memory = fault.Memory
emit_fault emit.UnnumberedLocal = fault.Emit emit.UnnumberedLocal
emit_fault emit.UnknownSequence = fault.Emit emit.UnknownSequence
emit_fault emit.SharedSequence = fault.Emit emit.SharedSequence
emit_fault emit.BranchOutside = fault.Emit emit.BranchOutside
emit_fault emit.BadClauses = fault.Emit emit.BadClauses
emit_fault emit.UnknownLocal = fault.Emit emit.UnknownLocal
emit_fault emit.TooLarge = fault.Emit emit.TooLarge
