-- What is read from a module that consists of the same as another has the same items.
use Rattle.std.proofs.Common.{◌≡◌, ℕ, List, Option, refl, sym, ap, subst, ◌∙◌}
use Rattle.wasm_numbers.proofs.ResultLemmas.{ok_same}
use Rattle.wasm_operators.specs.declared.types.Space.{Space}
use Rattle.wasm_operators.specs.declared.types.Space.TheVariants as spaces
use Rattle.wasm_sections.specs.Components.{Components, count_in}
use Rattle.wasm_sections.specs.Declarations.{first_numbers}
use Rattle.wasm_sections.specs.NextItems.{own_numbers}
use Rattle.wasm_module.specs.declared.parsed.ParsedModule.{ParsedModule}
use Rattle.wasm_module.specs.ReadFrom.{IsModuleOf}
use Rattle.wasm_module.specs.ReadModules.{components_of}
use Rattle.wasm_module.specs.ReadAgain.{IsReadAgain}
use Rattle.wasm_module.specs.SameModules.{HasWrittenCode, IsSameModule}
use Rattle.wasm_module.specs.WrittenModules.{BodyWriting}

-- a module with another code section, and the number of its data count section at another place
abbrev with_others : Components → (data_count : Option (ℕ × ℕ)) → (code : Option (ℕ × List ℕ)) → Components
with_others m data_count code = record m { data_count = data_count; code = code }

same_count : (space : Space) (m : Components) (data_count : Option (ℕ × ℕ)) (code : Option (ℕ × List ℕ)) → count_in (with_others m data_count code) space ≡ count_in m space
same_count spaces.Types m d c = refl
same_count spaces.Funcs m d c = refl
same_count spaces.Tables m d c = refl
same_count spaces.Memories m d c = refl
same_count spaces.Globals m d c = refl
same_count spaces.Tags m d c = refl
same_count spaces.Elements m d c = refl
same_count spaces.Data m d c = refl

pub read_again :
    (writes : BodyWriting) (source again : ParsedModule) (bytes new : List ℕ) → IsModuleOf bytes source → IsModuleOf new again →
    IsSameModule writes source (components_of source) new → IsReadAgain writes source again
read_again writes source again bytes new p q s =
    let m = components_of source in
    let n = components_of again in
    let same : s.written ≡ n = ok_same s.written n (sym s.spells ∙ q.spells) in
    let w = s.written in
    let is : n ≡ with_others m w.data_count w.code = sym same ∙ s.same.others in
    let count : (space : Space) → count_in n space ≡ count_in m space =
    λ space. ap (λ (c : Components). count_in c space) is ∙ same_count space m w.data_count w.code in
    record {
      items = record {
        types = ap (λ (c : Components). c.types) is;
        tags = ap (λ (c : Components). c.tags) is;
        functions = ap (λ (c : Components). c.functions) is;
        imported = ap (λ (c : Components). c.imported) is;
        ids = λ space. q.indices.ids space ∙ ap first_numbers (count space) ∙ sym (p.indices.ids space);
        numbers = λ space. q.indices.numbers space ∙ ap own_numbers (count space) ∙ sym (p.indices.numbers space);
      };
      code = subst (λ (c : Components). HasWrittenCode writes source m.code c.code) same s.same.code;
    }
