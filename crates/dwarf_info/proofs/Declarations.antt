-- Declarations: how many bytes they take, and that their codes ascend.
use Rattle.std.proofs.Common.{◌≡◌, ℕ, zero, suc, ◌-◌, ◌<◌, cond, eqb, ltb, ◌&&◌, not, List, [], ◌∷◌, length, Option, Some, None, Result, Ok, refl, sym, ap, subst, ◌∙◌, arith, inl, inr}
use Rattle.std.proofs.lemmas.Bool.{ltb-true}
use Rattle.wasm_numbers.proofs.Agreement.{chosen}
use Rattle.wasm_numbers.proofs.ResultLemmas.{bind_ok, ok_same, unless_ok}
use Rattle.wasm_numbers.specs.Results.{◌>>=◌, unless}
use Rattle.dwarf_bytes.specs.declared.fault.DebugFault.{DebugFault}
use Rattle.dwarf_bytes.specs.declared.fault.DebugFault.TheVariants.{Unsupported}
use Rattle.dwarf_bytes.specs.Numbers.{fixed_number, unsigned_leb, signed_leb}
use Rattle.dwarf_info.specs.declared.abbreviations.Attribute.{Attribute}
use Rattle.dwarf_info.specs.Attributes.{meaning_of, may_be_implicit}
use Rattle.dwarf_info.specs.Forms.{form_with_code, flag_present, implicit_const}
use Rattle.dwarf_info.specs.UpToEnd.{in_front_of, read_to_end, up_to_end}
use Rattle.dwarf_info.specs.Abbreviations.{Declaration, specified, specification, specifications, taking_bytes, declared_with, next_declaration, code_of, table_declarations, AbbreviationsAt, abbreviations_at}
use Rattle.dwarf_info.specs.Sound.{Ascend}
use Rattle.dwarf_info.proofs.Reading.{TakesBytes}
use Rattle.dwarf_info.proofs.Lengths.{LeavesNoMore, LeavesLess, less_no_more, then_no_more, then_less, just_no_more, cond_no_more, given_no_more, unsigned_less, signed_less, byte_less, none_unsigned, to_end_less}

-- ---- attribute specifications

specified_no_more : (name form : ℕ) → LeavesNoMore (specified name form)
specified_no_more name form =
    cond_no_more (eqb form implicit_const)
    (λ bytes. signed_leb bytes >>= λ value. unless (may_be_implicit (meaning_of name)) Unsupported >>= λ u. Ok (None, value.1))
    (λ bytes. cond (eqb form flag_present) (Ok (None, bytes)) (form_with_code form >>= λ f. Ok (Some (record { meaning = meaning_of name; form = f }), bytes)))
    (then_no_more signed_leb (λ value bytes. unless (may_be_implicit (meaning_of name)) Unsupported >>= λ u. Ok (None, bytes)) (less_no_more signed_leb signed_less)
    (λ value. given_no_more (unless (may_be_implicit (meaning_of name)) Unsupported) (λ u bytes. Ok (None, bytes)) (λ u. just_no_more None)))
    (cond_no_more (eqb form flag_present) (λ bytes. Ok (None, bytes)) (λ bytes. form_with_code form >>= λ f. Ok (Some (record { meaning = meaning_of name; form = f }), bytes))
    (just_no_more None)
    (given_no_more (form_with_code form) (λ f bytes. Ok (Some (record { meaning = meaning_of name; form = f }), bytes)) (λ f. just_no_more (Some (record { meaning = meaning_of name; form = f })))))

specification_less : LeavesLess specification
specification_less =
    then_less unsigned_leb (λ name bytes. unsigned_leb bytes >>= λ form. cond (eqb name 0 && eqb form.0 0) (Ok (None, form.1)) (specified name form.0 form.1 >>= λ one. Ok (Some one.0, one.1))) unsigned_less
    (λ name. then_no_more unsigned_leb (λ form bytes. cond (eqb name 0 && eqb form 0) (Ok (None, bytes)) (specified name form bytes >>= λ one. Ok (Some one.0, one.1))) (less_no_more unsigned_leb unsigned_less)
    (λ form. cond_no_more (eqb name 0 && eqb form 0) (λ bytes. Ok (None, bytes)) (λ bytes. specified name form bytes >>= λ one. Ok (Some one.0, one.1))
    (just_no_more None)
    (then_no_more (specified name form) (λ one bytes. Ok (Some one, bytes)) (specified_no_more name form) (λ one. just_no_more (Some one)))))

pub specification_takes : TakesBytes (λ (before : Option (Option Attribute)). specification)
specification_takes = record {
  shorter = λ before bytes x rest e. specification_less.at bytes x rest e;
  none = λ before. rw none_unsigned refl;
}

specifications_no_more : LeavesNoMore specifications
specifications_no_more = record {
  at = λ bytes xs rest e.
      let each = bind_ok (up_to_end (λ (before : Option (Option Attribute)). specification) None bytes) (λ each. Ok (taking_bytes each.0, each.1)) (xs, rest) e in
      let less = to_end_less (λ (before : Option (Option Attribute)). specification) specification_takes (length bytes) None bytes each.0.0 each.0.1 each.1 in
      let same = ok_same {E = DebugFault} (taking_bytes each.0.0, each.0.1) (xs, rest) each.2 in
      let left : each.0.1 ≡ rest = ap (λ (z : List Attribute × List ℕ). z.1) {x = (taking_bytes each.0.0, each.0.1)} same in
      omega (arith, ap length left);
}

-- ---- declarations

abbrev made : (code tag children : ℕ) → List Attribute → Declaration
made code tag children attributes = record { code = code; tag = tag; has_children = not (eqb children 0); attributes = attributes }

declared_no_more : (code : ℕ) → LeavesNoMore (declared_with code)
declared_no_more code =
    then_no_more unsigned_leb (λ tag bytes. fixed_number 1 bytes >>= λ children. specifications children.1 >>= λ attributes. Ok (made code tag children.0 attributes.0, attributes.1)) (less_no_more unsigned_leb unsigned_less)
    (λ tag. then_no_more (fixed_number 1) (λ children bytes. specifications bytes >>= λ attributes. Ok (made code tag children attributes.0, attributes.1)) (less_no_more (fixed_number 1) byte_less)
    (λ children. then_no_more specifications (λ attributes bytes. Ok (made code tag children attributes, bytes)) specifications_no_more (λ attributes. just_no_more (made code tag children attributes))))

declaration_less : (last : ℕ) → LeavesLess (next_declaration last)
declaration_less last =
    then_less unsigned_leb (λ code bytes. cond (eqb code 0) (Ok (None, bytes)) (unless (ltb last code) Unsupported >>= λ u. declared_with code bytes >>= λ d. Ok (Some d.0, d.1))) unsigned_less
    (λ code. cond_no_more (eqb code 0) (λ bytes. Ok (None, bytes)) (λ bytes. unless (ltb last code) Unsupported >>= λ u. declared_with code bytes >>= λ d. Ok (Some d.0, d.1))
    (just_no_more None)
    (given_no_more (unless (ltb last code) Unsupported) (λ u bytes. declared_with code bytes >>= λ d. Ok (Some d.0, d.1))
    (λ u. then_no_more (declared_with code) (λ d bytes. Ok (Some d, bytes)) (declared_no_more code) (λ d. just_no_more (Some d)))))

pub declaration_takes : TakesBytes (λ before. next_declaration (code_of before))
declaration_takes = record {
  shorter = λ before bytes x rest e. (declaration_less (code_of before)).at bytes x rest e;
  none = λ before. rw none_unsigned refl;
}

pub declarations_less : LeavesLess table_declarations
declarations_less = record {
  at = λ bytes ds rest e. to_end_less (λ before. next_declaration (code_of before)) declaration_takes (length bytes) None bytes ds rest e;
}

pub table_less : (section_length : ℕ) → LeavesLess (abbreviations_at section_length)
table_less section_length = record {
  at = λ bytes t rest e.
      let ds = bind_ok (table_declarations bytes) (λ ds. Ok (record { offset = section_length - length bytes; declarations = ds.0 }, ds.1)) (t, rest) e in
      let less = declarations_less.at bytes ds.0.0 ds.0.1 ds.1 in
      let same = ok_same {E = DebugFault} (record { offset = section_length - length bytes; declarations = ds.0.0 }, ds.0.1) (t, rest) ds.2 in
      let left : ds.0.1 ≡ rest = ap (λ (z : AbbreviationsAt × List ℕ). z.1) same in
      omega (arith, ap length left);
}

-- ---- codes

code_is : (code : ℕ) (bytes : List ℕ) (d : Declaration) (rest : List ℕ) → declared_with code bytes ≡ Ok (d, rest) → d.code ≡ code
code_is code bytes d rest e =
    let tag = bind_ok (unsigned_leb bytes) (λ tag. fixed_number 1 tag.1 >>= λ children. specifications children.1 >>= λ attributes. Ok (made code tag.0 children.0 attributes.0, attributes.1)) (d, rest) e in
    let children = bind_ok (fixed_number 1 tag.0.1) (λ children. specifications children.1 >>= λ attributes. Ok (made code tag.0.0 children.0 attributes.0, attributes.1)) (d, rest) tag.2 in
    let attributes = bind_ok (specifications children.0.1) (λ attributes. Ok (made code tag.0.0 children.0.0 attributes.0, attributes.1)) (d, rest) children.2 in
    let same = ok_same {E = DebugFault} (made code tag.0.0 children.0.0 attributes.0.0, attributes.0.1) (d, rest) attributes.2 in
    sym (ap (λ (z : Declaration × List ℕ). z.0.code) same)

none_not_some : {A : Type 0} (x : A) (r s : List ℕ) → (let q : Result (Option A × List ℕ) DebugFault = Ok (None, r) in q) ≡ Ok (Some x, s) → ⊥
none_not_some {A} x r s e =
    let a : Option A × List ℕ = (None, r) in
    let b : Option A × List ℕ = (Some x, s) in
    let p : a.0 ≡ b.0 = ap (λ (z : Option A × List ℕ). z.0) (ok_same {E = DebugFault} a b e) in
    absurd cc

some_same : {A : Type 0} (x y : A) (r s : List ℕ) → (let q : Result (Option A × List ℕ) DebugFault = Ok (Some x, r) in q) ≡ Ok (Some y, s) → x ≡ y
some_same {A} x y r s e =
    let a : Option A × List ℕ = (Some x, r) in
    let b : Option A × List ℕ = (Some y, s) in
    let p : a.0 ≡ b.0 = ap (λ (z : Option A × List ℕ). z.0) (ok_same {E = DebugFault} a b e) in
    cc

pub code_after : (last : ℕ) (bytes : List ℕ) (d : Declaration) (rest : List ℕ) → next_declaration last bytes ≡ Ok (Some d, rest) → last < d.code
code_after last bytes d rest e =
    let code = bind_ok (unsigned_leb bytes) (λ code. cond (eqb code.0 0) (Ok (None, code.1)) (unless (ltb last code.0) Unsupported >>= λ u. declared_with code.0 code.1 >>= λ d. Ok (Some d.0, d.1))) (Some d, rest) e in
    elim (chosen (eqb code.0.0 0) (Ok (None, code.0.1)) (unless (ltb last code.0.0) Unsupported >>= λ u. declared_with code.0.0 code.0.1 >>= λ d. Ok (Some d.0, d.1)) (Ok (Some d, rest)) code.2) [
      | inl p ↦ absurd (none_not_some d code.0.1 rest p.1)
      | inr p ↦
          let u = bind_ok (unless (ltb last code.0.0) Unsupported) (λ u. declared_with code.0.0 code.0.1 >>= λ d. Ok (Some d.0, d.1)) (Some d, rest) p.1 in
          let found = bind_ok (declared_with code.0.0 code.0.1) (λ d. Ok (Some d.0, d.1)) (Some d, rest) u.2 in
          let is = some_same found.0.0 d found.0.1 rest found.2 in
          let code_same = code_is code.0.0 code.0.1 found.0.0 found.0.1 found.1 in
          let less = ltb-true last code.0.0 (unless_ok (ltb last code.0.0) Unsupported u.0 u.1) in
          omega (arith, less, code_same, ap (λ (z : Declaration). z.code) is)
    ]

-- the codes of a table ascend
front_ascends : (last : ℕ) (o : Option Declaration) (following : List ℕ) (r : Result (List Declaration × List ℕ) DebugFault) (ds : List Declaration) (rest : List ℕ)
    → ((d : Declaration) → o ≡ Some d → last < d.code)
    → ((ys : List Declaration) (after : List ℕ) → r ≡ Ok (ys, after) → Ascend (λ (d : Declaration). d.code) (suc (code_of o)) ys)
    → in_front_of o following r ≡ Ok (ds, rest) → Ascend (λ (d : Declaration). d.code) (suc last) ds
front_ascends last None following r ds rest here others e =
    let same = ok_same {E = DebugFault} ([], following) (ds, rest) e in
    subst (Ascend (λ (d : Declaration). d.code) (suc last)) (ap (λ (z : List Declaration × List ℕ). z.0) {x = ([], following)} same) tt
front_ascends last (Some d) following r ds rest here others e =
    let ys = bind_ok r (λ ys. Ok (d ∷ ys.0, ys.1)) (ds, rest) e in
    let same = ok_same {E = DebugFault} (d ∷ ys.0.0, ys.0.1) (ds, rest) ys.2 in
    let first = here d refl in
    subst (Ascend (λ (d : Declaration). d.code) (suc last)) (ap (λ (z : List Declaration × List ℕ). z.0) {x = (d ∷ ys.0.0, ys.0.1)} same)
    (omega arith, others ys.0.0 ys.0.1 ys.1)

pub codes_ascend : (most : ℕ) (before : Option Declaration) (bytes : List ℕ) (ds : List Declaration) (rest : List ℕ)
    → read_to_end most (λ before. next_declaration (code_of before)) before bytes ≡ Ok (ds, rest) → Ascend (λ (d : Declaration). d.code) (suc (code_of before)) ds
unfolding read_to_end
codes_ascend zero before bytes ds rest e = absurd cc
codes_ascend (suc most) before bytes ds rest e =
    let x = bind_ok (next_declaration (code_of before) bytes) (λ x. in_front_of x.0 x.1 (read_to_end most (λ before. next_declaration (code_of before)) x.0 x.1)) (ds, rest) e in
    front_ascends (code_of before) x.0.0 x.0.1 (read_to_end most (λ before. next_declaration (code_of before)) x.0.0 x.0.1) ds rest
    (λ d g. code_after (code_of before) bytes d x.0.1 (x.1 ∙ ap (λ o. Ok (o, x.0.1)) g))
    (λ ys after g. codes_ascend most x.0.0 x.0.1 ys after g)
    x.2
