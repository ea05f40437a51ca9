-- Vectors of value types that are written, one type after the other; and the first function type with given lists, after it is
-- added.
use Rattle.std.proofs.Common.{◌≡◌, ◌<◌, ◌≤◌, ◌+◌, ℕ, Bool, true, false, cond, ◌&&◌, List, [], ◌∷◌, ◌++◌, length, take, get_or, Option, Some, None, Result, Ok, Err, is_ok, is_err, refl, sym, ap, subst, ◌∙◌, append_assoc}
use Rattle.std.specs.List.{flat_map}
use Rattle.std.specs.Option.{option_or}
use Rattle.std.proofs.lemmas.List.{append-nil, take_more, take_all, flat_map_more}
use Rattle.wasm_types.specs.declared.val_type.ValType.{ValType}
use Rattle.wasm_numbers.specs.Results.{each}
use Rattle.walrus_ir.specs.Types.{ModuleType, Func, same_types, is_function, find}
use Rattle.walrus_ir.proofs.SameTypes.{same_types-Decides}
use Rattle.walrus_ir.proofs.Positions.{position-push}
use Rattle.wasm_operators.specs.Shortest.{short_number, short_value}
use Rattle.wasm_body.specs.Translation.{translate_value}
use Rattle.wasm_body.proofs.Translation.Steps.{length-each}
use Rattle.walrus_maps.specs.declared.ids_to_indices.IdsToIndices.{IdsToIndices}
use Rattle.walrus_maps.specs.IndexMaps.{number_of}
use Rattle.wasm_body.specs.declared.error.IndexError.{IndexError}
use Rattle.wasm_operators.specs.declared.types.Space.TheVariants.{Types}
use Rattle.wasm_sections.specs.declared.changes.Changes.{Changes}
use Rattle.wasm_module.specs.declared.parsed.ParsedModule.{ParsedModule}
use Rattle.wasm_sections.specs.declared.spaces.Spaces.{Spaces}
use Rattle.wasm_sections.specs.DefinedItems.{DefinesType}
use Rattle.wasm_module.specs.AddedItems.{IsWrittenTypes, IsWrittenFunctionType, AddsFunctionType, HasFunctionType, ChangesTypesAndSpaces}
use Rattle.wasm_module.specs.RewrittenCode.{Extends}
use Rattle.wasm_sections.specs.Sections.{SectionAt}
use Rattle.wasm_sections.proofs.LocalLemmas.{each_more}

-- so many of these types are written
pub record TypesSoFar (numbers : IdsToIndices) (types : List (ValType ℕ)) (count : ℕ) (old new : List ℕ) : Type 0 where
  pub raw : List (ValType ℕ)
  pub raw_is : each (translate_value (number_of numbers)) (take count types) ≡ Ok raw
  pub new_is : new ≡ old ++ flat_map short_value raw

pub none_written : (numbers : IdsToIndices) (types : List (ValType ℕ)) (out : List ℕ) → TypesSoFar numbers types 0 out out
none_written numbers types out = record { raw = []; raw_is = refl; new_is = sym (append-nil out) }

pub one_written :
    (numbers : IdsToIndices) (types : List (ValType ℕ)) (i : ℕ) (old out new : List ℕ) (type raw : ValType ℕ) → i < length types → type ≡ get_or types i type →
    TypesSoFar numbers types i old out → translate_value (number_of numbers) type ≡ Ok raw → new ≡ out ++ short_value raw → TypesSoFar numbers types (i + 1) old new
one_written numbers types i old out new type raw within is s t e =
    let f = translate_value (number_of numbers) in
    let more : take (i + 1) types ≡ take i types ++ type ∷ [] =
    take_more types i type within ∙ ap (λ (x : ValType ℕ). take i types ++ x ∷ []) (sym is) in
    record {
      raw = s.raw ++ raw ∷ [];
      raw_is = ap (λ (l : List (ValType ℕ)). each f l) more ∙ each_more f (take i types) s.raw type raw s.raw_is t;
      new_is = e ∙ ap (λ (l : List ℕ). l ++ short_value raw) s.new_is ∙ flat_map_more short_value old s.raw raw;
    }

pub all_written :
    (numbers : IdsToIndices) (types : List (ValType ℕ)) (i : ℕ) (old counted new : List ℕ) → length types ≤ i → counted ≡ old ++ short_number (length types) →
    TypesSoFar numbers types i counted new → (text : List ℕ) × IsWrittenTypes numbers types text × (new ≡ old ++ text)
all_written numbers types i old counted new end e s =
    let f = translate_value (number_of numbers) in
    let is : each f types ≡ Ok s.raw = ap (λ (l : List (ValType ℕ)). each f l) (sym (take_all i types end)) ∙ s.raw_is in
    let items = flat_map short_value s.raw in (
      short_number (length s.raw) ++ items,
      record { raw = s.raw; raw_is = is; text_is = refl },
      s.new_is ∙ ap (λ (l : List ℕ). l ++ items) e ∙ append_assoc old (short_number (length types)) items
          ∙ ap (λ (n : ℕ). old ++ (short_number n ++ items)) (sym (length-each f types s.raw is)),
    )

-- ---- the first function type with these lists

same_lists : (ps rs : List (ValType ℕ)) → is_function ps rs (Func ps rs) ≡ true
same_lists ps rs = ap (λ (b : Bool). b && same_types rs rs) ((same_types-Decides ps ps).1 refl) ∙ (same_types-Decides rs rs).1 refl

pub first_of_added :
    (types : List ModuleType) (ps rs : List (ValType ℕ)) → find types ps rs ≡ None → find (types ++ Func ps rs ∷ []) ps rs ≡ Some (length types)
first_of_added types ps rs none =
    let last = cond (is_function ps rs (Func ps rs)) (Some (length types)) None in
    position-push (is_function ps rs) types (Func ps rs) ∙ ap (λ (o : Option ℕ). option_or o last) none
    ∙ ap (λ (b : Bool). cond b (Some (length types)) None) (same_lists ps rs)

-- ---- a function type of a module: found, or added

not_err : {A E : Type 0} (r : Result A E) (x : A) → r ≡ Ok x → is_err r ≡ true → ⊥
not_err {A} {E} r x e h = let f : false ≡ true = sym (ap (λ (s : Result A E). is_err s) e) ∙ h in cc

not_ok : {A E : Type 0} (r : Result A E) (x : E) → r ≡ Err x → is_ok r ≡ true → ⊥
not_ok {A} {E} r x e h = let f : false ≡ true = sym (ap (λ (s : Result A E). is_ok s) e) ∙ h in cc

pub is_found :
    (all : List SectionAt) (source now : ParsedModule) (changes : Changes) (ps rs : List (ValType ℕ)) (id index : ℕ) → find now.module.types ps rs ≡ Some id →
    Extends source now → ChangesTypesAndSpaces source now → now.spaces ≡ source.spaces → number_of now.spaces.numbers Types id ≡ Ok index →
    HasFunctionType all source now changes changes ps rs id
is_found all source now changes ps rs id index first e kept spaces n =
    let before = ap (λ (m : IdsToIndices). number_of m Types id) (sym e.spaces.numbers) ∙ n in
    record {
      is_first = first;
      more = e.types.0;
      types = e.types.1;
      kept = kept;
      had = λ h. (refl, spaces);
      adds = λ h. absurd (not_err (number_of source.spaces.numbers Types id) index before h);
    }

-- types that are added, and then numbers
pub both_kept :
    (source middle now : ParsedModule) → ChangesTypesAndSpaces source middle → now ≡ record middle { spaces = now.spaces } → ChangesTypesAndSpaces source now
both_kept source middle now p q =
    let types : now.module.types ≡ middle.module.types = ap (λ (m : ParsedModule). m.module.types) q in
    q ∙ ap (λ (m : ParsedModule). record m { spaces = now.spaces }) p
    ∙ ap (λ (ts : List ModuleType). record source { «module» = record source.module { types = ts }; spaces = now.spaces }) (sym types)

pub is_added :
    (all : List SectionAt) (source middle now : ParsedModule) (old new : Changes) (ps rs : List (ValType ℕ)) (id : ℕ) (error : IndexError) →
    find middle.module.types ps rs ≡ Some id → Extends source middle → ChangesTypesAndSpaces source middle → middle.spaces ≡ source.spaces →
    number_of middle.spaces.numbers Types id ≡ Err error → now ≡ record middle { spaces = now.spaces } → AddsFunctionType all middle old new ps rs →
    DefinesType id middle.spaces now.spaces → HasFunctionType all source now old new ps rs id
is_added all source middle now old new ps rs id error first e kept spaces n after a defines =
    let before = ap (λ (m : IdsToIndices). number_of m Types id) (sym e.spaces.numbers) ∙ n in
    let types : now.module.types ≡ middle.module.types = ap (λ (m : ParsedModule). m.module.types) after in
    record {
      is_first = ap (λ (ts : List ModuleType). find ts ps rs) types ∙ first;
      more = e.types.0;
      types = types ∙ e.types.1;
      kept = both_kept source middle now kept after;
      had = λ h. absurd (not_ok (number_of source.spaces.numbers Types id) error before h);
      adds = λ h. (
        (a.0, subst (λ (m : IdsToIndices). IsWrittenFunctionType m ps rs a.0) e.spaces.numbers a.1, a.2),
        subst (λ (s : Spaces). DefinesType id s now.spaces) spaces defines,
      );
    }
