-- The names of errors, as programs print them: for each the name of its innermost variant.
use Rattle.std.specs.Prelude.{ℕ, List, codes}
use Rattle.wasm_numbers.specs.declared.fault.ReadFault.{ReadFault}
use Rattle.wasm_numbers.specs.declared.fault.ReadFault.TheVariants as read
use Rattle.wasm_body.specs.declared.error.IndexError.{IndexError}
use Rattle.wasm_body.specs.declared.error.IndexError.TheVariants as index
use Rattle.wasm_body.specs.declared.error.ParseError.{ParseError}
use Rattle.wasm_body.specs.declared.error.ParseError.TheVariants as parse
use Rattle.wasm_body.specs.declared.error.EmitError.{EmitError}
use Rattle.wasm_body.specs.declared.error.EmitError.TheVariants as emit

abbrev pub name_of_read_fault : ReadFault → List ℕ
name_of_read_fault read.Truncated = codes "Truncated"
name_of_read_fault read.BadNumber = codes "BadNumber"
name_of_read_fault read.UnknownOperator = codes "UnknownOperator"
name_of_read_fault read.BadMemArg = codes "BadMemArg"
name_of_read_fault read.BadType = codes "BadType"
name_of_read_fault read.BadCatchKind = codes "BadCatchKind"
name_of_read_fault read.BadCastFlags = codes "BadCastFlags"
name_of_read_fault read.BadFence = codes "BadFence"
name_of_read_fault read.BadSelect = codes "BadSelect"

abbrev pub name_of_index_error : IndexError → List ℕ
name_of_index_error (index.OutOfRange space n) = codes "OutOfRange"
name_of_index_error (index.NoLocals function) = codes "NoLocals"
name_of_index_error (index.Unnumbered space) = codes "Unnumbered"
name_of_index_error index.TooMany = codes "TooMany"
name_of_index_error index.Memory = codes "Memory"
name_of_index_error (index.LocalOutOfRange function n) = codes "LocalOutOfRange"

abbrev pub name_of_parse_error : ParseError → List ℕ
name_of_parse_error (parse.Read e) = name_of_read_fault e.fault
name_of_parse_error parse.PlaceTooGreat = codes "PlaceTooGreat"
name_of_parse_error (parse.Checked code) = codes "Checked"
name_of_parse_error (parse.Index e) = name_of_index_error e
name_of_parse_error parse.NoSuchLabel = codes "NoSuchLabel"
name_of_parse_error parse.NotAFunctionType = codes "NotAFunctionType"
name_of_parse_error parse.TypeMissing = codes "TypeMissing"
name_of_parse_error parse.EntryTypeMissing = codes "EntryTypeMissing"
name_of_parse_error parse.ElseOutsideIf = codes "ElseOutsideIf"
name_of_parse_error parse.CatchOutsideTry = codes "CatchOutsideTry"
name_of_parse_error parse.DelegateOutsideTry = codes "DelegateOutsideTry"
name_of_parse_error parse.RethrowOutsideHandler = codes "RethrowOutsideHandler"
name_of_parse_error parse.Trailing = codes "Trailing"
name_of_parse_error parse.MissingEnd = codes "MissingEnd"
name_of_parse_error parse.NoTry = codes "NoTry"
name_of_parse_error parse.NoFrame = codes "NoFrame"
name_of_parse_error parse.UnknownId = codes "UnknownId"
name_of_parse_error parse.Memory = codes "Memory"

abbrev pub name_of_emit_error : EmitError → List ℕ
name_of_emit_error (emit.Index e) = name_of_index_error e
name_of_emit_error emit.UnnumberedLocal = codes "UnnumberedLocal"
name_of_emit_error emit.UnknownSequence = codes "UnknownSequence"
name_of_emit_error emit.SharedSequence = codes "SharedSequence"
name_of_emit_error emit.BranchOutside = codes "BranchOutside"
name_of_emit_error emit.BadClauses = codes "BadClauses"
name_of_emit_error emit.UnknownLocal = codes "UnknownLocal"
name_of_emit_error emit.TooLarge = codes "TooLarge"
name_of_emit_error emit.Memory = codes "Memory"
