use Rattle.std.proofs.Common.{[], ◌∷◌, Option, Ok, sym, ap, subst}
use Rattle.wasm_numbers.specs.Results.{◌>>=◌, some_or}
use Rattle.wasm_operators.specs.declared.types.Space.{Space}
use Rattle.wasm_sections.specs.declared.fault.ModuleError.{ModuleError}
use Rattle.module_removal.specs.CopiedParts.{writes}
use Rattle.module_removal.specs.CopiedItems.{space_of_kind, copied_kind}
use Rattle.module_removal.proofs.CopyLemmas.{Fails}
use Rattle.module_removal.proofs.KindCopies.{kind_copies, kind_refused, no_kind}
use Rattle.module_removal.proofs.copier.Copier.kind.Goals as goal

pub returns-in-Some-clause-is : goal.returns-in-Some-clause-is
returns-in-Some-clause-is c =
    kind_copies (space_of_kind c.args.fault) c.args.input.now.end c.args.input.now.rest.now c.args.self.now c.byte.new.self c.byte.new.input.rest.now c.in-Ok.value c.in-Some.space
    c.in-Ok.ensures.is (ap (λ (o : Option Space). some_or o c.args.fault >>= λ space. Ok (space, writes (c.in-Ok.value ∷ []))) (sym c.in-Some.ensures))

pub returns-in-None-clause-is : goal.returns-in-None-clause-is
returns-in-None-clause-is c =
    subst (λ (e : ModuleError). Fails e (copied_kind c.args.fault c.args.input.now.end c.args.input.now.rest.now)) (sym c.fault.ensures)
    (kind_refused (space_of_kind c.args.fault) c.args.input.now.end c.args.input.now.rest.now c.args.self.now c.byte.new.self c.byte.new.input.rest.now c.in-Ok.value c.args.fault
    c.in-Ok.ensures.is (ap (λ (o : Option Space). some_or o c.args.fault >>= λ space. Ok (space, writes (c.in-Ok.value ∷ []))) (sym c.in-None.ensures)))

pub returns-in-Err-clause-is : goal.returns-in-Err-clause-is
returns-in-Err-clause-is c =
    no_kind (space_of_kind c.args.fault) c.args.input.now.end c.args.input.now.rest.now c.in-Err.error c.in-Err.ensures.is
