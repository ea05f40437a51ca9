-- The bodies of a module that is read from what was written after functions were changed: as the changes made them, and then those that are added.
use Rattle.std.proofs.Common.{◌≡◌, ◌+◌, ℕ, suc, List, [], ◌∷◌, length, Some, Ok, refl, sym, ap, ◌∙◌, subst}
use Rattle.wasm_body.specs.Pairs.{Pair}
use Rattle.wasm_sections.specs.declared.changes.Changes.{Changes}
use Rattle.wasm_sections.specs.declared.omissions.OmittedSections.{OmittedSections}
use Rattle.wasm_sections.specs.CodeSections.{BodyAt}
use Rattle.wasm_sections.specs.Components.{Components, module_of}
use Rattle.wasm_module.specs.declared.parsed.ParsedModule.{ParsedModule}
use Rattle.wasm_module.specs.ChangedModules.{IsOneOf, IsChangedModule}
use Rattle.wasm_module.specs.ReadModules.{components_of}
use Rattle.wasm_module.specs.RewrittenCode.{FunctionChange, AreChanged}
use Rattle.wasm_module.specs.ToldBodies.{ToldBody}
use Rattle.wasm_module.specs.WrittenSections.{HasBodiesAndAdded}
use Rattle.wasm_module.proofs.ChangedLemmas.{all_of}
use Rattle.wasm_module.proofs.WrittenBodyLemmas.{written_bodies}

module _ {State : Type 0} (changes : FunctionChange State) (source : ParsedModule) where
  changed_count :
      (before : State) (f : ℕ) (bs : List BodyAt) (raws : List (List ℕ)) (pss : List (List Pair)) (after : State) → AreChanged changes source before f bs raws pss after → length bs ≡ length raws
  changed_count before f [] [] [] after h = refl
  changed_count before f (b ∷ bs) (r ∷ raws) (ps ∷ pss) after h = ap (λ (n : ℕ). suc n) (changed_count h.0 (f + 1) bs raws pss after h.2)
  changed_count before f [] [] (ps ∷ pss) after h = absurd h
  changed_count before f [] (r ∷ raws) pss after h = absurd h
  changed_count before f (b ∷ bs) [] pss after h = absurd h
  changed_count before f (b ∷ bs) (r ∷ raws) [] after h = absurd h

  pub changed_bodies :
      (before after : State) (sections : Changes) (omits : OmittedSections) (new : List ℕ) (told : List ToldBody) (old : ℕ × List ℕ) (m : Components) →
      module_of source.bytes.now ≡ Ok (components_of source) → (components_of source).code ≡ Some old → (w : IsChangedModule changes source before sections omits new told after) → module_of new ≡ Ok m →
      HasBodiesAndAdded sections w.raws m
  changed_bodies before after sections omits new told old m spells has_code w reads =
      let b = written_bodies (IsOneOf w.bodies w.raws w.pairs) source sections omits old new m spells has_code w.is_written reads in
      let as_many = changed_count before source.imported w.bodies w.raws w.pairs after w.are_changed in
      let same = all_of w.bodies w.raws w.pairs source as_many b.written.bodies b.written.raws b.written.pairs b.written.are_written (b.written.are_all ∙ sym w.are_all) in
      subst (λ l. HasBodiesAndAdded sections l m) same.1 b.bodies
