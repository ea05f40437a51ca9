-- The error of a source map whose mappings aren't read.
use Rattle.source_map.specs.declared.fault.MappingsError.{MappingsError}
use Rattle.source_map.specs.declared.fault.MappingsError.TheVariants as errors
use Rattle.source_map.specs.declared.json_text.fault.SourceMapFault.TheVariants.{Mappings}
use Rattle.source_map.specs.declared.json_text.fault.SourceMapError.{SourceMapError}
use Rattle.source_map.specs.declared.json_text.fault.SourceMapError.TheVariants.{Memory, Fault}

abbrev pub error_of_mappings : MappingsError → SourceMapError
error_of_mappings errors.Memory = Memory
error_of_mappings (errors.Fault fault) = Fault (Mappings fault)
