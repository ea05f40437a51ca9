-- A section that is read as one of a module has functions to which it refers: what can't be read of them can't be read of the module.
use Rattle.std.proofs.Common.{◌≡◌, ◌⊎◌, ◌==◌, ◌%◌, ◌-◌, ℕ, zero, suc, Bool, true, false, cond, nat_le, List, [], ◌∷◌, ◌++◌, length, take, flat_map, Option, Some, None, Result, Ok, Err, refl, sym, ap, subst, ◌∙◌, inl, inr, if◌then◌else◌, arith}
use Rattle.std.proofs.lemmas.Bool.Decides.{nat_tests}
use Rattle.std.specs.List.{concat}
use Rattle.wasm_numbers.specs.Results.{◌>>=◌, with_fault}
use Rattle.wasm_numbers.proofs.Agreement.{chosen}
use Rattle.wasm_numbers.proofs.ResultLemmas.{bind_ok, ok_same, with_fault_ok}
use Rattle.wasm_operators.specs.declared.types.Space.{Space}
use Rattle.wasm_operators.specs.declared.types.Space.TheVariants as spaces
use Rattle.wasm_operators.specs.Operations.{RawOperation}
use Rattle.wasm_sections.specs.declared.fault.ModuleError.{ModuleError}
use Rattle.wasm_sections.specs.declared.fault.ModuleFault.{ModuleFault}
use Rattle.wasm_sections.specs.declared.fault.ModuleFault.TheVariants as faults
use Rattle.wasm_sections.specs.declared.tables.TableType.{TableType}
use Rattle.wasm_sections.specs.Components.{Components, count_in, with_one_table, with_one_global, with_one_element, item_step, items_part, start_part, contents_of}
use Rattle.wasm_sections.specs.Format.{operator_part, is_control_opcode, is_end_opcode, ends_constant, operators_part, constant_part, table_type_part, after_table_mark, initialized_part, table_after, table_part, front_after, global_type_part, global_part, name_part, export_space, export_part, index_among, index_part, known_export_part, element_flags_part, element_type_part, element_offset_part, element_part, elements_part, before_elements_part, element_segment_part}
use Rattle.wasm_sections.specs.Parts.{Part, just, passed, ◌>=>◌, checked, repeated, fault_here, one_byte, number, no_more, whole_part, vector_of}
use Rattle.wasm_sections.specs.References.{referred_by, if_constant, expression_part, constant_references, constant_references_if, index_references, references_of_each, table_references, global_references, exported_function, export_references, element_references, elements_references, segment_references, item_references, contents_references}
use Rattle.wasm_sections.proofs.PartLemmas.{checked_ok}
use Rattle.wasm_sections.proofs.ReferenceLemmas.{collected, functions_of, after_flags}
use Rattle.wasm_sections.proofs.TypeReadingLemmas.{first_gives}

-- what this part reads has functions, up to the same place
abbrev pub HasFound : (end : ℕ) → (text rest : List ℕ) → Part (List ℕ) → Type 0
HasFound end text rest refers = (found : List ℕ) × (refers end text ≡ Ok (found, rest))

abbrev pub Finds : {A : Type 0} → Part A → Part (List ℕ) → Type 0
Finds {A} part refers = (end : ℕ) (text : List ℕ) (x : A) (rest : List ℕ) → part end text ≡ Ok (x, rest) → HasFound end text rest refers

-- ---- one part after the other

-- the value and the rest of the first part, and those of the second
first_of :
    {A B : Type 0} (first : Part A) (second : A → Part B) (end : ℕ) (text : List ℕ) (y : B) (rest : List ℕ) → (first >=> second) end text ≡ Ok (y, rest) →
    (x : A × List ℕ) × (first end text ≡ Ok x) × (second x.0 end x.1 ≡ Ok (y, rest))
first_of first second end text y rest e = bind_ok (first end text) (λ x. second x.0 end x.1) (y, rest) e

-- the value before it is checked
unchecked :
    {A B : Type 0} (part : Part A) (check : A → Result B ModuleFault) (end : ℕ) (text : List ℕ) (v : B) (rest : List ℕ) → checked part check end text ≡ Ok (v, rest) →
    (x : A) × (part end text ≡ Ok (x, rest)) × (check x ≡ Ok v)
unchecked {A} {B} part check end text v rest e =
    let a = bind_ok (part end text) (λ x. with_fault (fault_here end text) (check x.0) >>= λ v. Ok (v, x.1)) (v, rest) e in
    let b = bind_ok (with_fault (fault_here end text) (check a.0.0)) (λ v. Ok (v, a.0.1)) (v, rest) a.2 in
    let same = ok_same (b.0, a.0.1) (v, rest) b.2 in (
      a.0.0,
      a.1 ∙ ap (λ (l : List ℕ). Ok (a.0.0, l)) (ap (λ (y : B × List ℕ). y.1) same),
      with_fault_ok (fault_here end text) (check a.0.0) b.0 b.1 ∙ ap (λ (y : B). Ok y) (ap (λ (y : B × List ℕ). y.0) same),
    )

end_same : {A : Type 0} (x y : A) (text rest : List ℕ) → (let r : Result (A × List ℕ) ModuleError = Ok (x, text) in r) ≡ Ok (y, rest) → text ≡ rest
end_same {A} x y text rest e = ap (λ (p : A × List ℕ). p.1) (ok_same (x, text) (y, rest) e)

value_same : {A : Type 0} (x y : A) (text rest : List ℕ) → (let r : Result (A × List ℕ) ModuleError = Ok (x, text) in r) ≡ Ok (y, rest) → x ≡ y
value_same {A} x y text rest e = ap (λ (p : A × List ℕ). p.0) (ok_same (x, text) (y, rest) e)

found_to : (end : ℕ) (text a b : List ℕ) (refers : Part (List ℕ)) → a ≡ b → HasFound end text a refers → HasFound end text b refers
found_to end text a b refers e h = subst (λ (l : List ℕ). HasFound end text l refers) e h

-- a part without functions, and one with some
found_after :
    {A : Type 0} (first : Part A) (second : A → Part (List ℕ)) (end : ℕ) (text : List ℕ) (x : A) (middle rest : List ℕ) → first end text ≡ Ok (x, middle) →
    HasFound end middle rest (second x) → HasFound end text rest (first >=> second)
found_after first second end text x middle rest e h = (h.0, first_gives (first end text) (λ y. second y.0 end y.1) (x, middle) e ∙ h.1)

-- ---- constant expressions

one_allowed :
    (end : ℕ) (text next : List ℕ) (b : Bool) → checked operator_part ends_constant end text ≡ Ok (b, next) →
    (o : RawOperation) × (checked operator_part if_constant end text ≡ Ok (o, next)) × (is_end_opcode o.opcode ≡ b)
one_allowed end text next b e =
    let a = unchecked operator_part ends_constant end text b next e in
    elim (chosen (is_control_opcode a.0.opcode) (Err faults.BadConstant) (Ok (is_end_opcode a.0.opcode)) (Ok b) a.2) [
      | inl x ↦ let never = x.1 in absurd cc
      | inr x ↦ (
        a.0,
        checked_ok operator_part if_constant end text a.0 a.0 next a.1 (ap (λ (r : Result Bool ModuleFault). r >>= λ is_end. Ok a.0) a.2),
        ok_same (is_end_opcode a.0.opcode) b x.1,
      )
    ]

operators_found : (n end : ℕ) (text rest : List ℕ) → operators_part n end text ≡ Ok (tt, rest) → (os : List RawOperation) × (expression_part n end text ≡ Ok (os, rest))
unfolding operators_part expression_part
operators_found zero end text rest e = absurd cc
operators_found (suc n) end text rest e =
    let a = bind_ok (checked operator_part ends_constant end text) (λ x. cond x.0 (Ok (tt, x.1)) (operators_part n end x.1)) (tt, rest) e in
    let o = one_allowed end text a.0.1 a.0.0 a.1 in
    let after : (RawOperation × List ℕ) → Result (List RawOperation × List ℕ) ModuleError =
    λ x. cond (is_end_opcode x.0.opcode) (Ok (x.0 ∷ [], x.1)) (expression_part n end x.1 >>= λ others. Ok (x.0 ∷ others.0, others.1)) in
    let first = first_gives (checked operator_part if_constant end text) after (o.0, a.0.1) o.1 in
    elim (chosen a.0.0 (Ok (tt, a.0.1)) (operators_part n end a.0.1) (Ok (tt, rest)) a.2) [
      | inl x ↦
          let chosen_is = ap (λ (b : Bool). cond b (Ok (o.0 ∷ [], a.0.1)) (expression_part n end a.0.1 >>= λ others. Ok (o.0 ∷ others.0, others.1))) (o.2 ∙ x.0) in
          (o.0 ∷ [], first ∙ chosen_is ∙ ap (λ (l : List ℕ). Ok (o.0 ∷ [], l)) (end_same {A = Unit {0}} tt tt a.0.1 rest x.1))
      | inr x ↦
          let others = operators_found n end a.0.1 rest x.1 in
          let chosen_is = ap (λ (b : Bool). cond b (Ok (o.0 ∷ [], a.0.1)) (expression_part n end a.0.1 >>= λ others. Ok (o.0 ∷ others.0, others.1))) (o.2 ∙ x.0) in
          (o.0 ∷ others.0, first ∙ chosen_is ∙ first_gives (expression_part n end a.0.1) (λ others. Ok (o.0 ∷ others.0, others.1)) (others.0, rest) others.1)
    ]

pub constant_found : Finds constant_part constant_references
constant_found end text x rest e =
    let a = bind_ok (operators_part (length text) end text) (λ x. Ok (take (length text - length x.1) text, x.1)) (x, rest) e in
    let after = end_same {A = List ℕ} (take (length text - length a.0.1) text) x a.0.1 rest a.2 in
    let os = operators_found (length text) end text rest (a.1 ∙ ap (λ (l : List ℕ). Ok (tt, l)) after) in
    let is = first_gives (expression_part (length text) end text) functions_of (os.0, rest) os.1 in
    (flat_map referred_by os.0, is)

pub passed_constant_found : Finds (passed constant_part) constant_references
passed_constant_found end text x rest e =
    let a = first_of constant_part (λ x. just tt) end text x rest e in
    found_to end text a.0.1 rest constant_references (end_same {A = Unit {0}} tt x a.0.1 rest a.2) (constant_found end text a.0.0 a.0.1 a.1)

index_found : Finds (passed number) index_references
index_found end text x rest e =
    let a = first_of number (λ x. just tt) end text x rest e in
    found_to end text a.0.1 rest index_references (end_same {A = Unit {0}} tt x a.0.1 rest a.2)
    (a.0.0 ∷ [], first_gives (number end text) (λ y. just (y.0 ∷ []) end y.1) a.0 a.1)

-- ---- items

abbrev refers_after : (end : ℕ) → Result (Bool × List ℕ) ModuleError → Result (List ℕ × List ℕ) ModuleError
refers_after end r = r >>= λ y. constant_references_if y.0 end y.1

table_after_found :
    (after : Option (List ℕ)) (end : ℕ) (text : List ℕ) (x : TableType × Option (List ℕ)) (rest : List ℕ) → table_after after end text ≡ Ok (x, rest) →
    (found : List ℕ) × (refers_after end (front_after after end text) ≡ Ok (found, rest))
table_after_found None end text x rest e =
    let a = first_of table_type_part (λ type. just (type, None)) end text x rest e in
    ([], ap (refers_after end) (first_gives (table_type_part end text) (λ y. just false end y.1) a.0 a.1) ∙ ap (λ (l : List ℕ). Ok ([], l)) (end_same (a.0.0, None) x a.0.1 rest a.2))
table_after_found (Some marked) end text x rest e =
    let a = first_of initialized_part (λ x. just (x.0, Some x.1)) end marked x rest e in
    let b = first_of table_type_part (λ type. constant_part >=> λ initial. just (type, initial)) end marked a.0.0 a.0.1 a.1 in
    let c = first_of constant_part (λ initial. just (b.0.0, initial)) end b.0.1 a.0.0 a.0.1 b.2 in
    let stop = end_same (b.0.0, c.0.0) a.0.0 c.0.1 a.0.1 c.2 ∙ end_same (a.0.0.0, Some a.0.0.1) x a.0.1 rest a.2 in
    let refers = found_to end b.0.1 c.0.1 rest constant_references stop (constant_found end b.0.1 c.0.0 c.0.1 c.1) in
    (refers.0, ap (refers_after end) (first_gives (table_type_part end marked) (λ y. just true end y.1) b.0 b.1) ∙ refers.1)

table_found : Finds table_part table_references
table_found end text x rest e = table_after_found (after_table_mark text) end text x rest e

global_found : Finds global_part global_references
global_found end text x rest e =
    let a = first_of global_type_part (λ type. constant_part >=> λ initial. just (type, initial)) end text x rest e in
    let b = first_of constant_part (λ initial. just (a.0.0, initial)) end a.0.1 x rest a.2 in
    found_after global_type_part (λ type. constant_references) end text a.0.0 a.0.1 rest a.1
    (found_to end a.0.1 b.0.1 rest constant_references (end_same (a.0.0, b.0.0) x b.0.1 rest b.2) (constant_found end a.0.1 b.0.0 b.0.1 b.1))

export_found : (counts : Space → ℕ) → Finds (known_export_part counts) export_references
export_found counts end text x rest e =
    let a = first_of name_part (λ name. checked one_byte export_space >=> λ space. index_part (counts space) space) end text x rest e in
    let b = first_of (checked one_byte export_space) (λ space. index_part (counts space) space) end a.0.1 x rest a.2 in
    let c = unchecked number (index_among (counts b.0.0) b.0.0) end b.0.1 x rest b.2 in
    let is : export_part end text ≡ Ok ((a.0.0, b.0.0, c.0), rest) =
    first_gives (name_part end text) (λ y. (checked one_byte export_space >=> λ space. number >=> λ index. just (y.0, space, index)) end y.1) a.0 a.1
    ∙ first_gives (checked one_byte export_space end a.0.1) (λ y. (number >=> λ index. just (a.0.0, y.0, index)) end y.1) b.0 b.1
    ∙ first_gives (number end b.0.1) (λ y. just (a.0.0, b.0.0, y.0) end y.1) (c.0, rest) c.1 in
    (exported_function b.0.0 c.0, first_gives (export_part end text) (λ y. just (exported_function y.0.1 y.0.2) end y.1) ((a.0.0, b.0.0, c.0), rest) is)

element_found : (are_expressions : Bool) → Finds (element_part are_expressions) (element_references are_expressions)
element_found true = passed_constant_found
element_found false = index_found

offset_found : (is_there : Bool) → Finds (if is_there then passed constant_part else just tt) (constant_references_if is_there)
offset_found true end text x rest e = passed_constant_found end text x rest e
offset_found false end text x rest e = ([], ap (λ (l : List ℕ). Ok ([], l)) (end_same {A = Unit {0}} tt x text rest e))

module _ {A : Type 0} (step : A → Part A) (item : Part (List ℕ)) (finds : (x : A) → Finds (step x) item) where
  repeated_found :
      (n : ℕ) (x y : A) (end : ℕ) (text rest : List ℕ) (before : List (List ℕ)) → repeated step n x end text ≡ Ok (y, rest) →
      (found : List (List ℕ)) × (repeated (collected item) n before end text ≡ Ok (found, rest))
  unfolding repeated
  repeated_found zero x y end text rest before e = (before, ap (λ (l : List ℕ). Ok (before, l)) (end_same x y text rest e))
  repeated_found (suc n) x y end text rest before e =
      let a = bind_ok (step x end text) (λ y. repeated step n y.0 end y.1) (y, rest) e in
      let g = finds x end text a.0.0 a.0.1 a.1 in
      let now = before ++ g.0 ∷ [] in
      let one = first_gives (item end text) (λ y. just (before ++ y.0 ∷ []) end y.1) (g.0, a.0.1) g.1 in
      let others = repeated_found n a.0.0 y end a.0.1 rest now a.2 in
      (others.0, first_gives (collected item before end text) (λ y. repeated (collected item) n y.0 end y.1) (now, a.0.1) one ∙ others.1)

  each_found : (x : A) → Finds (number >=> λ n. repeated step n x) (references_of_each item)
  each_found x end text y rest e =
      let a = first_of number (λ n. repeated step n x) end text y rest e in
      let r = repeated_found a.0.0 x y end a.0.1 rest [] a.2 in
      let vector = first_gives (number end text) (λ n. repeated (collected item) n.0 [] end n.1) a.0 a.1 ∙ r.1 in
      (concat r.0, first_gives (vector_of item end text) (λ y. just (concat y.0) end y.1) (r.0, rest) vector)

elements_found :
    (flags kept end : ℕ) (text typed after rest : List ℕ) (x : Unit {0}) → element_type_part flags end text ≡ Ok (tt, typed) → flags ≡ kept → typed ≡ after →
    elements_part (nat_le 4 kept) end after ≡ Ok (x, rest) → HasFound end text rest (elements_references flags)
elements_found flags kept end text typed after rest x e same there read =
    let here : elements_part (nat_le 4 flags) end typed ≡ Ok (x, rest) =
    ap (λ (n : ℕ). elements_part (nat_le 4 n) end typed) same ∙ ap (λ (l : List ℕ). elements_part (nat_le 4 kept) end l) there ∙ read in
    found_after (element_type_part flags) (λ u. references_of_each (element_references (nat_le 4 flags))) end text tt typed rest e
    (each_found {A = Unit {0}} (λ u. element_part (nat_le 4 flags)) (element_references (nat_le 4 flags)) (λ u. element_found (nat_le 4 flags)) tt end typed x rest here)

segment_found : Finds element_segment_part segment_references
segment_found end text x rest e =
    let a = first_of before_elements_part (λ flags. elements_part (nat_le 4 flags)) end text x rest e in
    let b = first_of element_flags_part (λ flags. element_offset_part flags >=> λ u. element_type_part flags >=> λ u. just flags) end text a.0.0 a.0.1 a.1 in
    let flags = b.0.0 in
    let c = first_of (element_offset_part flags) (λ u. element_type_part flags >=> λ u. just flags) end b.0.1 a.0.0 a.0.1 b.2 in
    let d = first_of (element_type_part flags) (λ u. just flags) end c.0.1 a.0.0 a.0.1 c.2 in
    let offset = offset_found ((flags % 2) == 0) end b.0.1 c.0.0 c.0.1 c.1 in
    let elements =
    elements_found flags a.0.0 end c.0.1 d.0.1 a.0.1 rest x d.1 (value_same flags a.0.0 d.0.1 a.0.1 d.2) (end_same flags a.0.0 d.0.1 a.0.1 d.2) a.2 in (
      offset.0 ++ elements.0,
      first_gives (element_flags_part end text) (λ y. after_flags y.0 end y.1) b.0 b.1
          ∙ first_gives (constant_references_if ((flags % 2) == 0) end b.0.1) (λ y. (elements_references flags >=> λ elements. just (y.0 ++ elements)) end y.1) (offset.0, c.0.1) offset.1
          ∙ first_gives (elements_references flags end c.0.1) (λ y. just (offset.0 ++ y.0) end y.1) (elements.0, rest) elements.1,
    )

-- ---- sections

whole_read : {A : Type 0} (part : Part A) (end : ℕ) (text : List ℕ) (y : A) → whole_part part end text ≡ Ok y → (rest : List ℕ) × (part end text ≡ Ok (y, rest))
whole_read {A} part end text y e =
    let a = bind_ok (part end text) (λ x. no_more x.1 end >>= λ u. Ok x.0) y e in
    let b = bind_ok (no_more a.0.1 end) (λ u. Ok a.0.0) y a.2 in
    (a.0.1, a.1 ∙ ap (λ (v : A). Ok (v, a.0.1)) (ok_same a.0.0 y b.2))

checked_found : {A B : Type 0} (part : Part A) (check : A → Result B ModuleFault) (item : Part (List ℕ)) → Finds part item → Finds (checked part check) item
checked_found part check item finds end text v rest e = let a = unchecked part check end text v rest e in finds end text a.0 rest a.1

table_item : (m : Components) → Finds (item_step 4 m) (item_references 4)
table_item m = checked_found table_part (λ x. with_one_table m) table_references table_found

global_item : (m : Components) → Finds (item_step 6 m) (item_references 6)
global_item m = checked_found global_part (λ x. with_one_global m) global_references global_found

export_item : (m : Components) → Finds (item_step 7 m) (item_references 7)
export_item m end text x rest e =
    let a = first_of (known_export_part (count_in m)) (λ u. just m) end text x rest e in
    found_to end text a.0.1 rest export_references (end_same m x a.0.1 rest a.2) (export_found (count_in m) end text a.0.0 a.0.1 a.1)

segment_item : (m : Components) → Finds (item_step 9 m) (item_references 9)
segment_item m = checked_found element_segment_part (λ x. with_one_element m) segment_references segment_found

-- the contents of a section that is read
abbrev FindsIn : (id : ℕ) → Type 0
FindsIn id = (m n : Components) (end : ℕ) (text : List ℕ) → contents_of id m end text ≡ Ok n → (x : List ℕ × List ℕ) × (contents_references id end text ≡ Ok x)

in_items :
    (id : ℕ) (m n : Components) (end : ℕ) (text : List ℕ) → ((m : Components) → Finds (item_step id m) (item_references id)) → whole_part (items_part id m) end text ≡ Ok n →
    (x : List ℕ × List ℕ) × (references_of_each (item_references id) end text ≡ Ok x)
in_items id m n end text finds e =
    let a = whole_read (items_part id m) end text n e in
    let f = each_found {A = Components} (item_step id) (item_references id) finds m end text n a.0 a.1 in
    ((f.0, a.0), f.1)

in_start : FindsIn 8
in_start m n end text e =
    let a = whole_read (start_part m) end text n e in
    let b = first_of (index_part (count_in m spaces.Funcs) spaces.Funcs) (λ u. just m) end text n a.0 a.1 in
    let c = unchecked number (index_among (count_in m spaces.Funcs) spaces.Funcs) end text b.0.0 b.0.1 b.1 in
    ((c.0 ∷ [], b.0.1), first_gives (number end text) (λ y. just (y.0 ∷ []) end y.1) (c.0, b.0.1) c.1)

abbrev by_tests : (four six seven eight nine : Bool) → Part (List ℕ)
by_tests four six seven eight nine =
    if four then references_of_each (item_references 4)
    else if six then references_of_each (item_references 6)
    else if seven then references_of_each (item_references 7)
    else if eight then index_references
    else if nine then references_of_each (item_references 9)
    else just []

in_others :
    (four six seven eight nine : Bool) (end : ℕ) (text : List ℕ) → four ≡ false → six ≡ false → seven ≡ false → eight ≡ false → nine ≡ false →
    by_tests four six seven eight nine end text ≡ Ok ([], text)
in_others true six seven eight nine end text a b c d e = absurd cc
in_others false true seven eight nine end text a b c d e = absurd cc
in_others false false true eight nine end text a b c d e = absurd cc
in_others false false false true nine end text a b c d e = absurd cc
in_others false false false false true end text a b c d e = absurd cc
in_others false false false false false end text a b c d e = refl

is_or_not : (b : Bool) → (b ≡ true) ⊎ (b ≡ false)
is_or_not true = inl refl
is_or_not false = inr refl

at_id : (id k : ℕ) → (id == k) ≡ true → FindsIn k → FindsIn id
at_id id k e h = let same : id ≡ k = grind (arith, nat_tests) in subst FindsIn (sym same) h

pub contents_found : (id : ℕ) → FindsIn id
contents_found id m n end text e =
    elim (is_or_not (id == 4)) [
      | inl four ↦ at_id id 4 four (λ m n end text e. in_items 4 m n end text table_item e) m n end text e
      | inr four ↦ elim (is_or_not (id == 6)) [
        | inl six ↦ at_id id 6 six (λ m n end text e. in_items 6 m n end text global_item e) m n end text e
        | inr six ↦ elim (is_or_not (id == 7)) [
          | inl seven ↦ at_id id 7 seven (λ m n end text e. in_items 7 m n end text export_item e) m n end text e
          | inr seven ↦ elim (is_or_not (id == 8)) [
            | inl eight ↦ at_id id 8 eight in_start m n end text e
            | inr eight ↦ elim (is_or_not (id == 9)) [
              | inl nine ↦ at_id id 9 nine (λ m n end text e. in_items 9 m n end text segment_item e) m n end text e
              | inr nine ↦ (([], text), in_others (id == 4) (id == 6) (id == 7) (id == 8) (id == 9) end text four six seven eight nine)
            ]
          ]
        ]
      ]
    ]
