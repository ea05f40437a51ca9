-- What the steps in which a module is read leave as it was: a relation between the components before and after.
use Rattle.std.proofs.Common.{◌≡◌, ℕ, zero, suc, ◌+◌, ◌-◌, ◌^◌, ◌==◌, nat_lt, Bool, true, false, if◌then◌else◌, List, ◌∷◌, [], ◌++◌, length, Option, Some, is_some, Result, Ok, Err, refl, subst, inl, inr}
use Rattle.wasm_numbers.specs.Results.{◌>>=◌, with_fault}
use Rattle.wasm_numbers.proofs.Agreement.{chosen}
use Rattle.wasm_numbers.proofs.ResultLemmas.{bind_ok, ok_same, with_fault_ok}
use Rattle.wasm_operators.specs.declared.types.Space.{Space}
use Rattle.wasm_operators.specs.declared.types.Space.TheVariants as spaces
use Rattle.walrus_ir.specs.Types.{ModuleType}
use Rattle.wasm_sections.specs.declared.fault.ModuleError.{ModuleError}
use Rattle.wasm_sections.specs.declared.fault.ModuleFault.{ModuleFault}
use Rattle.wasm_sections.specs.declared.fault.ModuleFault.TheVariants as fault
use Rattle.wasm_sections.specs.declared.imports.Imported.{Imported}
use Rattle.wasm_sections.specs.declared.imports.Imported.TheVariants as imported
use Rattle.wasm_sections.specs.Components.{Components, count_in, one_more_in, function_type_of, with_one_function, with_one_tag, with_one_table, with_one_memory, with_one_global, with_one_element, with_one_data, with_one_import, import_step, export_step, item_step, items_part, few_types, type_section_part, start_part, data_count_part, code_part, custom_section, contents_of}
use Rattle.wasm_sections.specs.Format.{name_part, table_part, limits_part, global_part, tag_part, imported_part, index_part, known_export_part, element_segment_part, data_segment_part, types_part}
use Rattle.wasm_sections.specs.Parts.{Part, fault_here, just, ◌>=>◌, checked, repeated, no_more, whole_part, number}

-- ---- for any relation

module _ (R : Components → Components → Type 0) where
  -- A part, the contents of a section, or one more item, lead from these components only to related ones.
  abbrev pub PartLeads : Components → Part Components → Type 0
  PartLeads m part = (end : ℕ) (text : List ℕ) (x : Components × List ℕ) → part end text ≡ Ok x → R m x.0

  abbrev pub SectionLeads : Components → ((end : ℕ) → (text : List ℕ) → Result Components ModuleError) → Type 0
  SectionLeads m contents = (end : ℕ) (text : List ℕ) (n : Components) → contents end text ≡ Ok n → R m n

  abbrev pub ItemLeads : Components → Result Components ModuleFault → Type 0
  ItemLeads m item = (n : Components) → item ≡ Ok n → R m n

  pub just_leads : (m : Components) → R m m → PartLeads m (just m)
  just_leads m same end text x e = subst (λ (p : Components × List ℕ). R m p.0) (ok_same (m, text) x e) same

  pub then_leads : {A : Type 0} (m : Components) (first : Part A) (second : A → Part Components) → ((a : A) → PartLeads m (second a)) → PartLeads m (first >=> second)
  then_leads m first second h end text x e = let a = bind_ok (first end text) (λ y. second y.0 end y.1) x e in h a.0.0 end a.0.1 x a.2

  pub checked_leads :
      {A : Type 0} (m : Components) (part : Part A) (check : A → Result Components ModuleFault) → ((a : A) → ItemLeads m (check a)) → PartLeads m (checked part check)
  checked_leads m part check h end text x e =
      let a = bind_ok (part end text) (λ y. with_fault (fault_here end text) (check y.0) >>= λ v. Ok (v, y.1)) x e in
      let b = bind_ok (with_fault (fault_here end text) (check a.0.0)) (λ v. Ok (v, a.0.1)) x a.2 in
      subst (λ (p : Components × List ℕ). R m p.0) (ok_same (b.0, a.0.1) x b.2) (h a.0.0 b.0 (with_fault_ok (fault_here end text) (check a.0.0) b.0 b.1))

  pub repeated_leads :
      ((m : Components) → R m m) → ((a b c : Components) → R a b → R b c → R a c) → (step : Components → Part Components) → ((m : Components) → PartLeads m (step m)) →
      (n : ℕ) (m : Components) → PartLeads m (repeated step n m)
  unfolding repeated
  repeated_leads same both step h zero m end text x e = just_leads m (same m) end text x e
  repeated_leads same both step h (suc n) m end text x e =
      let a = bind_ok (step m end text) (λ y. repeated step n y.0 end y.1) x e in
      both m a.0.0 x.0 (h m end text a.0 a.1) (repeated_leads same both step h n a.0.0 end a.0.1 x a.2)

  either_leads : (m : Components) (b : Bool) (p q : Part Components) → (b ≡ true → PartLeads m p) → PartLeads m q → PartLeads m (if b then p else q)
  either_leads m true p q f g = f refl
  either_leads m false p q f g = g

  pub whole_leads : (m : Components) (part : Part Components) → PartLeads m part → SectionLeads m (whole_part part)
  whole_leads m part h end text n e =
      let a = bind_ok (part end text) (λ x. no_more x.1 end >>= λ u. Ok x.0) n e in
      let b = bind_ok (no_more a.0.1 end) (λ u. Ok a.0.0) n a.2 in
      subst (λ (c : Components). R m c) (ok_same a.0.0 n b.2) (h end text a.0 a.1)

  pub either_section :
      (m : Components) (b : Bool) (p q : (end : ℕ) → (text : List ℕ) → Result Components ModuleError) → (b ≡ true → SectionLeads m p) → (b ≡ false → SectionLeads m q) →
      SectionLeads m (if b then p else q)
  either_section m true p q f g = f refl
  either_section m false p q f g = g refl

  -- an item more, where there is room for it
  one_more_leads : (space : Space) (m more : Components) → (nat_lt (count_in m space) (2 ^ 32) ≡ true → R m more) → ItemLeads m (one_more_in space m more)
  one_more_leads space m more h n e =
      elim (chosen (nat_lt (count_in m space) (2 ^ 32)) (Ok more) (Err fault.TooGreat) (Ok n) e) [
        | inl x ↦ subst (λ (c : Components). R m c) (ok_same more n x.1) (h x.0)
        | inr x ↦ absurd (let f = x.1 in cc)
      ]

  -- a data segment, which has an index or none
  data_leads : (m : Components) → R m m → R m (record m { datas = m.datas + 1 }) → ItemLeads m (with_one_data m)
  data_leads m same more n e =
      elim (chosen (is_some m.data_count) (one_more_in spaces.Data m (record m { datas = m.datas + 1 })) (Ok m) (Ok n) e) [
        | inl x ↦ one_more_leads spaces.Data m (record m { datas = m.datas + 1 }) (λ room. more) n x.1
        | inr x ↦ subst (λ (c : Components). R m c) (ok_same m n x.1) same
      ]

  pub data_step_leads : (m : Components) → R m m → R m (record m { datas = m.datas + 1 }) → PartLeads m (checked data_segment_part (λ x. with_one_data m))
  data_step_leads m same more = checked_leads m data_segment_part (λ x. with_one_data m) (λ x. data_leads m same more)

  -- the type section, where all types may change
  pub types_lead : (m : Components) → ((types : List ModuleType) → R m (record m { types = types })) → SectionLeads m (type_section_part m)
  types_lead m types end text n e =
      let a = bind_ok (whole_part (types_part (2 ^ 64 - 1)) end text >>= few_types) (λ all. types_part (length all) end text >>= λ x. Ok (record m { types = x.0 })) n e in
      let b = bind_ok (types_part (length a.0) end text) (λ x. Ok (record m { types = x.0 })) n a.2 in
      subst (λ (c : Components). R m c) (ok_same (record m { types = b.0.0 }) n b.2) (types b.0.0)

  -- ---- what such a relation has to allow

  -- of sections other than those of types, imports and functions, and the code section
  pub record AllowsOthers : Type 0 where
    pub same : (m : Components) → R m m
    pub both : (a b c : Components) → R a b → R b c → R a c
    pub tags : (m : Components) (tags : List ℕ) → R m (record m { tags = tags })
    pub tables : (m : Components) (count : ℕ) → R m (record m { tables = count })
    pub memories : (m : Components) (count : ℕ) → R m (record m { memories = count })
    pub globals : (m : Components) (count : ℕ) → R m (record m { globals = count })
    pub elements : (m : Components) (count : ℕ) → R m (record m { elements = count })
    pub datas : (m : Components) (count : ℕ) → R m (record m { datas = count })
    pub data_count : (m : Components) (count : Option (ℕ × ℕ)) → R m (record m { data_count = count })

  -- of all
  pub record Allows : Type 0 where
    pub others : AllowsOthers
    pub functions :
        (m : Components) (index type : ℕ) → function_type_of m index ≡ Ok type → nat_lt (length m.functions) (2 ^ 32) ≡ true →
        R m (record m { functions = m.functions ++ type ∷ [] })
    pub imported : (m : Components) (imported : ℕ) → R m (record m { imported = imported })

  module _ (allows : AllowsOthers) where
    tag_leads : (m : Components) (index : ℕ) → ItemLeads m (with_one_tag m index)
    tag_leads m index n e =
        let a = bind_ok (function_type_of m index) (λ type. one_more_in spaces.Tags m (record m { tags = m.tags ++ type ∷ [] })) n e in
        one_more_leads spaces.Tags m (record m { tags = m.tags ++ a.0 ∷ [] }) (λ room. allows.tags m (m.tags ++ a.0 ∷ [])) n a.2

    table_leads : (m : Components) → ItemLeads m (with_one_table m)
    table_leads m = one_more_leads spaces.Tables m (record m { tables = m.tables + 1 }) (λ room. allows.tables m (m.tables + 1))

    memory_leads : (m : Components) → ItemLeads m (with_one_memory m)
    memory_leads m = one_more_leads spaces.Memories m (record m { memories = m.memories + 1 }) (λ room. allows.memories m (m.memories + 1))

    global_leads : (m : Components) → ItemLeads m (with_one_global m)
    global_leads m = one_more_leads spaces.Globals m (record m { globals = m.globals + 1 }) (λ room. allows.globals m (m.globals + 1))

    element_leads : (m : Components) → ItemLeads m (with_one_element m)
    element_leads m = one_more_leads spaces.Elements m (record m { elements = m.elements + 1 }) (λ room. allows.elements m (m.elements + 1))

    export_step_leads : (m : Components) → PartLeads m (export_step m)
    export_step_leads m = then_leads m (known_export_part (count_in m)) (λ u. just m) (λ u. just_leads m (allows.same m))

    item_step_leads :
        (id : ℕ) → ((id == 2) ≡ true → (m : Components) → PartLeads m (import_step m)) → ((id == 3) ≡ true → (m : Components) → PartLeads m (checked number (with_one_function m))) →
        (m : Components) → PartLeads m (item_step id m)
    item_step_leads id imports functions m =
        let from_13 : Part Components = if id == 13 then checked tag_part (with_one_tag m) else checked data_segment_part (λ x. with_one_data m) in
        let from_9 : Part Components = if id == 9 then checked element_segment_part (λ x. with_one_element m) else from_13 in
        let from_7 : Part Components = if id == 7 then export_step m else from_9 in
        let from_6 : Part Components = if id == 6 then checked global_part (λ x. with_one_global m) else from_7 in
        let from_5 : Part Components = if id == 5 then checked limits_part (λ x. with_one_memory m) else from_6 in
        let from_4 : Part Components = if id == 4 then checked table_part (λ x. with_one_table m) else from_5 in
        let from_3 : Part Components = if id == 3 then checked number (with_one_function m) else from_4 in
        either_leads m (id == 2) (import_step m) from_3 (λ is. imports is m)
        (either_leads m (id == 3) (checked number (with_one_function m)) from_4 (λ is. functions is m)
        (either_leads m (id == 4) (checked table_part (λ x. with_one_table m)) from_5 (λ is. checked_leads m table_part (λ x. with_one_table m) (λ x. table_leads m))
        (either_leads m (id == 5) (checked limits_part (λ x. with_one_memory m)) from_6 (λ is. checked_leads m limits_part (λ x. with_one_memory m) (λ x. memory_leads m))
        (either_leads m (id == 6) (checked global_part (λ x. with_one_global m)) from_7 (λ is. checked_leads m global_part (λ x. with_one_global m) (λ x. global_leads m))
        (either_leads m (id == 7) (export_step m) from_9 (λ is. export_step_leads m)
        (either_leads m (id == 9) (checked element_segment_part (λ x. with_one_element m)) from_13 (λ is. checked_leads m element_segment_part (λ x. with_one_element m) (λ x. element_leads m))
        (either_leads m (id == 13) (checked tag_part (with_one_tag m)) (checked data_segment_part (λ x. with_one_data m)) (λ is. checked_leads m tag_part (with_one_tag m) (tag_leads m))
        (data_step_leads m (allows.same m) (allows.datas m (m.datas + 1))))))))))

    -- ---- sections

    custom_leads : (m : Components) → SectionLeads m (custom_section m)
    custom_leads m end text n e =
        let a = bind_ok (name_part end text) (λ x. Ok m) n e in
        subst (λ (c : Components). R m c) (ok_same m n a.2) (allows.same m)

    data_count_leads : (m : Components) → PartLeads m (data_count_part m)
    data_count_leads m end text x e =
        let a = bind_ok (number end text) (λ y. Ok (record m { data_count = Some (y.0, end - length text) }, y.1)) x e in
        subst (λ (p : Components × List ℕ). R m p.0) (ok_same (record m { data_count = Some (a.0.0, end - length text) }, a.0.1) x a.2)
        (allows.data_count m (Some (a.0.0, end - length text)))

    -- each section, if those of types, imports, functions and code are
    pub other_contents_lead :
        (id : ℕ) (m : Components) → ((id == 1) ≡ true → SectionLeads m (type_section_part m)) → ((id == 2) ≡ true → (n : Components) → PartLeads n (import_step n)) →
        ((id == 3) ≡ true → (n : Components) → PartLeads n (checked number (with_one_function n))) → ((id == 10) ≡ true → SectionLeads m (whole_part (code_part m))) →
        SectionLeads m (contents_of id m)
    other_contents_lead id m types imports functions code =
        let from_12 : (end : ℕ) → (text : List ℕ) → Result Components ModuleError =
        if id == 12 then whole_part (data_count_part m) else whole_part (items_part id m) in
        let from_10 : (end : ℕ) → (text : List ℕ) → Result Components ModuleError = if id == 10 then whole_part (code_part m) else from_12 in
        let from_8 : (end : ℕ) → (text : List ℕ) → Result Components ModuleError = if id == 8 then whole_part (start_part m) else from_10 in
        let from_1 : (end : ℕ) → (text : List ℕ) → Result Components ModuleError = if id == 1 then type_section_part m else from_8 in
        let items : PartLeads m (items_part id m) =
        then_leads m number (λ n. repeated (item_step id) n m)
        (λ n. repeated_leads allows.same allows.both (item_step id) (item_step_leads id imports functions) n m) in
        either_section m (id == 0) (custom_section m) from_1 (λ is. custom_leads m)
        (λ no. either_section m (id == 1) (type_section_part m) from_8 types
        (λ no. either_section m (id == 8) (whole_part (start_part m)) from_10
        (λ is. whole_leads m (start_part m) (then_leads m (index_part (count_in m spaces.Funcs) spaces.Funcs) (λ u. just m) (λ u. just_leads m (allows.same m))))
        (λ no. either_section m (id == 10) (whole_part (code_part m)) from_12 code
        (λ no. either_section m (id == 12) (whole_part (data_count_part m)) (whole_part (items_part id m)) (λ is. whole_leads m (data_count_part m) (data_count_leads m))
        (λ no. whole_leads m (items_part id m) items)))))

  module _ (allows : Allows) where
    function_leads : (m : Components) (index : ℕ) → ItemLeads m (with_one_function m index)
    function_leads m index n e =
        let a = bind_ok (function_type_of m index) (λ type. one_more_in spaces.Funcs m (record m { functions = m.functions ++ type ∷ [] })) n e in
        one_more_leads spaces.Funcs m (record m { functions = m.functions ++ a.0 ∷ [] }) (allows.functions m index a.0 a.1) n a.2

    import_leads : (m : Components) (it : Imported) → ItemLeads m (with_one_import m it)
    import_leads m (imported.Func index) n e =
        let a = bind_ok (with_one_function m index) (λ c. Ok (record c { imported = length c.functions })) n e in
        subst (λ (c : Components). R m c) (ok_same (record a.0 { imported = length a.0.functions }) n a.2)
        (allows.others.both m a.0 (record a.0 { imported = length a.0.functions }) (function_leads m index a.0 a.1) (allows.imported a.0 (length a.0.functions)))
    import_leads m (imported.Tag index) n e = tag_leads allows.others m index n e
    import_leads m imported.Table n e = table_leads allows.others m n e
    import_leads m imported.Memory n e = memory_leads allows.others m n e
    import_leads m imported.Global n e = global_leads allows.others m n e

    import_step_leads : (m : Components) → PartLeads m (import_step m)
    import_step_leads m =
        then_leads m name_part (λ from. name_part >=> λ name. checked imported_part (with_one_import m))
        (λ from. then_leads m name_part (λ name. checked imported_part (with_one_import m))
        (λ name. checked_leads m imported_part (with_one_import m) (import_leads m)))

    -- each section, if the type section and the code section are
    pub contents_lead :
        (id : ℕ) (m : Components) → ((id == 1) ≡ true → SectionLeads m (type_section_part m)) → ((id == 10) ≡ true → SectionLeads m (whole_part (code_part m))) →
        SectionLeads m (contents_of id m)
    contents_lead id m types code =
        other_contents_lead allows.others id m types (λ is. import_step_leads) (λ is n. checked_leads n number (with_one_function n) (function_leads n)) code
