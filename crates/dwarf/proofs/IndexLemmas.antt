-- Entries of an index, one after the other.
use Rattle.std.proofs.Common.{◌≡◌, ℕ, zero, suc, ◌+◌, ◌-◌, ◌^◌, ◌<◌, ◌≤◌, true, false, cond, eqb, List, [], ◌∷◌, ◌++◌, length, drop, get_or, Option, Some, None, Result, Ok, Err, refl, sym, ap, ◌∙◌, append_assoc, arith}
use Rattle.std.specs.Prelude.{IfSome}
use Rattle.std.proofs.lemmas.Bool.{ne_eqb, le-leb, lt-leb}
use Rattle.std.proofs.lemmas.List.{append-nil, drop_more, drop_all}
use Rattle.wasm_numbers.specs.Results.{◌>>=◌}
use Rattle.dwarf_bytes.specs.declared.fault.DebugFault.{DebugFault}
use Rattle.dwarf_bytes.specs.declared.fault.DebugFault.TheVariants.{Truncated, Overlap}
use Rattle.dwarf_bytes.specs.Changes.{SectionChange}
use Rattle.dwarf_bytes.specs.Faults.{DebugReader}
use Rattle.dwarf_bytes.specs.Numbers.{size_in_bytes, fixed_number, unsigned_leb}
use Rattle.dwarf_line.specs.Repeated.{at_most, all_values}
use Rattle.dwarf_info.proofs.Lengths.{none_unsigned}
use Rattle.dwarf.specs.declared.index_abbreviations.IndexAttribute.{IndexAttribute}
use Rattle.dwarf.specs.declared.index_abbreviations.IndexMeaning.{IndexMeaning}
use Rattle.dwarf.specs.declared.index_abbreviations.IndexMeaning.TheVariants as means
use Rattle.dwarf.specs.declared.name_index.PlacedNumber.{PlacedNumber}
use Rattle.dwarf.specs.declared.name_index.Target.{Target}
use Rattle.dwarf.specs.NameIndex.{SpelledIndex}
use Rattle.dwarf_bytes.specs.Sorting.{sorted_by}
use Rattle.dwarf.proofs.Repeating.{bind_fault, bind_value}
use Rattle.dwarf.specs.IndexEntries.{IndexDeclaration, index_declarations, attributes_with, from_offset, unit_offsets_followed, spelled_index_followed, places_of_names, IndexFollowing, placed_value, with_offset, target_with, target_from, entry_followed, entries_at_most, name_entries_followed, repeats_number, once, all_names_followed}

-- ---- values to the last byte

pub record ReadSoFar {A : Type 0} (one : DebugReader A) (all rest : List ℕ) (done : List A) : Type 0 where
  pub most : ℕ
  pub enough : length rest ≤ most
  pub same : all_values one all ≡ (at_most most one rest >>= λ others. Ok (done ++ others))

nothing_before : {A : Type 0} (r : Result (List A) DebugFault) → r ≡ (r >>= λ others. Ok ([] ++ others))
nothing_before (Ok others) = refl
nothing_before (Err f) = refl

pub read_none : {A : Type 0} (one : DebugReader A) (all : List ℕ) → ReadSoFar one all all []
read_none one all = record { most = length all; enough = omega arith; same = nothing_before (all_values one all) }

record NextValue {A : Type 0} (one : DebugReader A) (most : ℕ) (rest : List ℕ) : Type 0 where
  n : ℕ
  enough : length rest ≤ suc n
  is : at_most most one rest ≡ (one rest >>= λ x. at_most n one x.1 >>= λ xs. Ok (x.0 ∷ xs))

next_value : {A : Type 0} (one : DebugReader A) (most : ℕ) (rest : List ℕ) → (rest ≡ [] → ⊥) → length rest ≤ most → NextValue one most rest
unfolding at_most
next_value one most [] some enough = absurd (some refl)
next_value one zero (b ∷ bytes) some enough = absurd (omega arith)
next_value one (suc n) (b ∷ bytes) some enough = record { n = n; enough = enough; is = refl }

no_value : {A : Type 0} (one : DebugReader A) (most : ℕ) (rest : List ℕ) → rest ≡ [] → at_most most one rest ≡ Ok []
unfolding at_most
no_value one most rest none = rw none refl

one_more : {A : Type 0} (done : List A) (x : A) (r : Result (List A) DebugFault) → ((r >>= λ xs. Ok (x ∷ xs)) >>= λ others. Ok (done ++ others)) ≡ (r >>= λ others. Ok ((done ++ x ∷ []) ++ others))
one_more {A} done x (Ok others) = ap (λ (l : List A). let r : Result (List A) DebugFault = Ok l in r) (sym (append_assoc done (x ∷ []) others))
one_more done x (Err f) = refl

module _ {A : Type 0} (one : DebugReader A) (all rest : List ℕ) (done : List A) (so : ReadSoFar one all rest done) where
  pub read_all : rest ≡ [] → all_values one all ≡ Ok done
  read_all none = so.same ∙ ap (λ (r : Result (List A) DebugFault). r >>= λ others. Ok (done ++ others)) (no_value one so.most rest none) ∙ ap (λ (l : List A). let r : Result (List A) DebugFault = Ok l in r) (append-nil done)

  module _ (some : rest ≡ [] → ⊥) where
    next : NextValue one so.most rest
    next = next_value one so.most rest some so.enough

    pub read_refused : (fault : DebugFault) → one rest ≡ Err fault → all_values one all ≡ Err fault
    read_refused fault e =
        let first : (one rest >>= λ x. at_most next.n one x.1 >>= λ xs. Ok (x.0 ∷ xs)) ≡ Err fault = rw e refl in
        so.same ∙ ap (λ (r : Result (List A) DebugFault). r >>= λ others. Ok (done ++ others)) (next.is ∙ first)

    pub read_more : (x : A) (after : List ℕ) → one rest ≡ Ok (x, after) → length after < length rest → ReadSoFar one all after (done ++ x ∷ [])
    read_more x after e less = record {
      most = next.n;
      enough = let k = next.enough in omega arith;
      same =
          let first : (one rest >>= λ y. at_most next.n one y.1 >>= λ xs. Ok (y.0 ∷ xs)) ≡ (at_most next.n one after >>= λ xs. Ok (x ∷ xs)) = rw e refl in
          so.same ∙ ap (λ (r : Result (List A) DebugFault). r >>= λ others. Ok (done ++ others)) (next.is ∙ first) ∙ one_more done x (at_most next.n one after);
    }

-- ---- what an entry says

module _ (end : ℕ) (xs : List IndexAttribute) (i : ℕ) (d : IndexAttribute) (within : i < length xs) (t : Target) (bytes : List ℕ) where
  target_step : target_from end (drop i xs) t bytes
      ≡ (placed_value end (get_or xs i d).form bytes >>= λ n. target_with t (get_or xs i d).meaning n.0 >>= λ u. target_from end (drop (i + 1) xs) u n.1)
  target_step = ap (λ (l : List IndexAttribute). target_from end l t bytes) (drop_more xs i d within)

  pub value_unread : (fault : DebugFault) → placed_value end (get_or xs i d).form bytes ≡ Err fault → target_from end (drop i xs) t bytes ≡ Err fault
  value_unread fault e =
      target_step ∙ bind_fault (placed_value end (get_or xs i d).form bytes) (λ n. target_with t (get_or xs i d).meaning n.0 >>= λ u. target_from end (drop (i + 1) xs) u n.1) fault e

  module _ (n : PlacedNumber) (after : List ℕ) (e : placed_value end (get_or xs i d).form bytes ≡ Ok (n, after)) where
    target_here : target_from end (drop i xs) t bytes ≡ (target_with t (get_or xs i d).meaning n >>= λ u. target_from end (drop (i + 1) xs) u after)
    target_here =
        target_step ∙ bind_value (placed_value end (get_or xs i d).form bytes) (λ n. target_with t (get_or xs i d).meaning n.0 >>= λ u. target_from end (drop (i + 1) xs) u n.1) (n, after) e

    pub target_refused : (fault : DebugFault) → target_with t (get_or xs i d).meaning n ≡ Err fault → target_from end (drop i xs) t bytes ≡ Err fault
    target_refused fault g = target_here ∙ bind_fault (target_with t (get_or xs i d).meaning n) (λ u. target_from end (drop (i + 1) xs) u after) fault g

    pub target_more : (u : Target) → target_with t (get_or xs i d).meaning n ≡ Ok u → target_from end (drop i xs) t bytes ≡ target_from end (drop (i + 1) xs) u after
    target_more u g = target_here ∙ bind_value (target_with t (get_or xs i d).meaning n) (λ u. target_from end (drop (i + 1) xs) u after) u g

pub target_end : (end : ℕ) (xs : List IndexAttribute) (i : ℕ) → length xs ≤ i → (t : Target) (bytes : List ℕ) → target_from end (drop i xs) t bytes ≡ Ok (t, bytes)
target_end end xs i few t bytes = ap (λ (l : List IndexAttribute). target_from end l t bytes) (drop_all i xs few)

-- the place after a value is one of 64 bits
abbrev pub IsPlace : PlacedNumber → Type 0
IsPlace n = n.at + n.width ≤ 2 ^ 64 - 1

same_target : (t u : Target) → (let r : Result Target DebugFault = Ok t in r) ≡ Ok u → t ≡ u
same_target t u e = cc

place_of_offset : (t u : Target) (o : Option PlacedNumber) (n : PlacedNumber) → IsPlace n → with_offset t o n ≡ Ok u → IfSome u.offset IsPlace
place_of_offset t u None n p e = rw (← same_target (record t { offset = Some n }) u e) p
place_of_offset t u (Some other) n p e = absurd cc

pub place_kept : (t u : Target) (m : IndexMeaning) (n : PlacedNumber) → target_with t m n ≡ Ok u → IsPlace n → IfSome t.offset IsPlace → IfSome u.offset IsPlace
place_kept t u means.CompileUnit n e p q = rw (← same_target (record t { compile_unit = Some n.number }) u e) q
place_kept t u means.TypeUnit n e p q = rw (← same_target (record t { type_unit = Some n.number }) u e) q
place_kept t u means.Entry n e p q = place_of_offset t u t.offset n p e
place_kept t u means.Other n e p q = rw (← same_target t u e) q

-- ---- the entries of a name

pub record EntriesSoFar (f : IndexFollowing) (all : List ℕ) (old : List SectionChange) (rest : List ℕ) (now : List SectionChange) : Type 0 where
  pub most : ℕ
  pub enough : length rest ≤ most
  pub same : entries_at_most (length all) f all old ≡ entries_at_most most f rest now

pub no_entries_yet : (f : IndexFollowing) (all : List ℕ) (old : List SectionChange) → EntriesSoFar f all old all old
no_entries_yet f all old = record { most = length all; enough = omega arith; same = refl }

abbrev after_code : (n : ℕ) → IndexFollowing → List SectionChange → ℕ × List ℕ → Result (List SectionChange × List ℕ) DebugFault
after_code n f now code =
    cond (eqb code.0 0) (Ok (now, code.1))
    (f.attributes code.0 >>= λ attributes. entry_followed f attributes code.1 now >>= λ x. entries_at_most n f x.1 x.0)

record NextEntry (f : IndexFollowing) (most : ℕ) (rest : List ℕ) (now : List SectionChange) : Type 0 where
  n : ℕ
  enough : length rest ≤ suc n
  is : entries_at_most most f rest now ≡ (unsigned_leb rest >>= after_code n f now)

next_entry : (f : IndexFollowing) (most : ℕ) (rest : List ℕ) (now : List SectionChange) → (rest ≡ [] → ⊥) → length rest ≤ most → NextEntry f most rest now
unfolding entries_at_most
next_entry f zero [] now some enough = absurd (some refl)
next_entry f zero (b ∷ bytes) now some enough = absurd (omega arith)
next_entry f (suc n) rest now some enough = record { n = n; enough = enough; is = refl }

no_entry : (f : IndexFollowing) (most : ℕ) (rest : List ℕ) (now : List SectionChange) → rest ≡ [] → entries_at_most most f rest now ≡ Err Truncated
unfolding entries_at_most
no_entry f zero rest now none = refl
no_entry f (suc n) rest now none = rw (none, none_unsigned) refl

module _ (f : IndexFollowing) (all : List ℕ) (old : List SectionChange) (rest : List ℕ) (now : List SectionChange) (so : EntriesSoFar f all old rest now) where
  pub entries_unended : rest ≡ [] → entries_at_most (length all) f all old ≡ Err Truncated
  entries_unended none = so.same ∙ no_entry f so.most rest now none

  module _ (some : rest ≡ [] → ⊥) where
    entry : NextEntry f so.most rest now
    entry = next_entry f so.most rest now some so.enough

    pub code_unread : (fault : DebugFault) → unsigned_leb rest ≡ Err fault → entries_at_most (length all) f all old ≡ Err fault
    code_unread fault e = so.same ∙ entry.is ∙ ap (λ (r : Result (ℕ × List ℕ) DebugFault). r >>= after_code entry.n f now) e

    module _ (code : ℕ) (after : List ℕ) (e : unsigned_leb rest ≡ Ok (code, after)) where
      here : entries_at_most (length all) f all old ≡ after_code entry.n f now (code, after)
      here = so.same ∙ entry.is ∙ ap (λ (r : Result (ℕ × List ℕ) DebugFault). r >>= after_code entry.n f now) e

      pub entries_ended : code ≡ 0 → entries_at_most (length all) f all old ≡ Ok (now, after)
      entries_ended zero_is = here ∙ (let first : after_code entry.n f now (code, after) ≡ Ok (now, after) = rw zero_is refl in first)

      module _ (other : code ≡ 0 → ⊥) where
        pub code_unknown : (fault : DebugFault) → f.attributes code ≡ Err fault → entries_at_most (length all) f all old ≡ Err fault
        code_unknown fault g = here ∙ (let first : after_code entry.n f now (code, after) ≡ Err fault = rw (ne_eqb code 0 other, g) refl in first)

        module _ (attributes : List IndexAttribute) (g : f.attributes code ≡ Ok attributes) where
          pub entry_refused : (fault : DebugFault) → entry_followed f attributes after now ≡ Err fault → entries_at_most (length all) f all old ≡ Err fault
          entry_refused fault h = here ∙ (let first : after_code entry.n f now (code, after) ≡ Err fault = rw (ne_eqb code 0 other, g, h) refl in first)

          pub entries_more : (new : List SectionChange) (left : List ℕ) → entry_followed f attributes after now ≡ Ok (new, left) → length left < length rest → EntriesSoFar f all old left new
          entries_more new left h less = record {
            most = entry.n;
            enough = let k = entry.enough in omega arith;
            same = here ∙ (let first : after_code entry.n f now (code, after) ≡ entries_at_most entry.n f left new = rw (ne_eqb code 0 other, g, h) refl in first);
          }

-- the name that begins at this offset
module _ (f : IndexFollowing) (offset : ℕ) (old : List SectionChange) (bytes : List ℕ) (e : from_offset f.index offset ≡ Ok bytes) where
  abbrev with_end : List SectionChange × List ℕ → Result (List SectionChange × ℕ) DebugFault
  with_end x = Ok (x.0, length f.index.pool.bytes - length x.1)

  name_here : name_entries_followed f offset old ≡ (entries_at_most (length bytes) f bytes old >>= with_end)
  name_here = bind_value (from_offset f.index offset) (λ bytes. entries_at_most (length bytes) f bytes old >>= with_end) bytes e

  pub name_fault : (fault : DebugFault) → entries_at_most (length bytes) f bytes old ≡ Err fault → name_entries_followed f offset old ≡ Err fault
  name_fault fault g = name_here ∙ bind_fault (entries_at_most (length bytes) f bytes old) with_end fault g

  pub name_ends : (now : List SectionChange) (after : List ℕ) → entries_at_most (length bytes) f bytes old ≡ Ok (now, after)
      → name_entries_followed f offset old ≡ Ok (now, length f.index.pool.bytes - length after)
  name_ends now after g = name_here ∙ bind_value (entries_at_most (length bytes) f bytes old) with_end (now, after) g

-- ---- the names

module _ (f : IndexFollowing) (end : ℕ) (before : Option ℕ) (ns : List ℕ) (i : ℕ) (now : List SectionChange) where
  pub names_end : length ns ≤ i → all_names_followed f end (once before (drop i ns)) now ≡ Ok now
  names_end few = ap (λ (l : List ℕ). all_names_followed f end (once before l) now) (drop_all i ns few)

  module _ (d : ℕ) (within : i < length ns) where
    left : once before (drop i ns) ≡ once before (get_or ns i d ∷ drop (i + 1) ns)
    left = ap (once before) (drop_more ns i d within)

    pub name_again : repeats_number before (get_or ns i d) ≡ true → all_names_followed f end (once before (drop i ns)) now ≡ all_names_followed f end (once (Some (get_or ns i d)) (drop (i + 1) ns)) now
    name_again e = ap (λ (l : List ℕ). all_names_followed f end l now) left ∙ rw e refl

    module _ (other : repeats_number before (get_or ns i d) ≡ false) where
      pub name_overlaps : get_or ns i d < end → all_names_followed f end (once before (drop i ns)) now ≡ Err Overlap
      name_overlaps less = ap (λ (l : List ℕ). all_names_followed f end l now) left ∙ rw (other, lt-leb end (get_or ns i d) less) refl

      module _ (le : end ≤ get_or ns i d) where
        pub name_refused : (fault : DebugFault) → name_entries_followed f (get_or ns i d) now ≡ Err fault → all_names_followed f end (once before (drop i ns)) now ≡ Err fault
        name_refused fault e = ap (λ (l : List ℕ). all_names_followed f end l now) left ∙ rw (other, le-leb end (get_or ns i d) le, e) refl

        pub name_more : (new : List SectionChange) (after : ℕ) → name_entries_followed f (get_or ns i d) now ≡ Ok (new, after)
            → all_names_followed f end (once before (drop i ns)) now ≡ all_names_followed f after (once (Some (get_or ns i d)) (drop (i + 1) ns)) new
        name_more new after e = ap (λ (l : List ℕ). all_names_followed f end l now) left ∙ rw (other, le-leb end (get_or ns i d) le, e) refl

-- ---- an index

module _ (info : List SectionChange) (i : SpelledIndex) (old a b : List SectionChange) (ds : List IndexDeclaration) (d : index_declarations i.abbreviations ≡ Ok ds) (os : List ℕ)
    (o : all_values (fixed_number (size_in_bytes i.size)) i.names ≡ Ok os)
    (u : unit_offsets_followed info i.size i.compile_units old ≡ Ok a) (v : unit_offsets_followed info i.size i.type_units a ≡ Ok b) where
  abbrev following : List IndexDeclaration → IndexFollowing
  following ds = record { index = i; attributes = attributes_with ds; info = info }

  parts_followed : spelled_index_followed info i old ≡ all_names_followed (following ds) 0 (places_of_names os) b
  parts_followed =
      bind_value (index_declarations i.abbreviations)
      (λ ds. all_values (fixed_number (size_in_bytes i.size)) i.names >>= λ os. unit_offsets_followed info i.size i.compile_units old >>= λ a. unit_offsets_followed info i.size i.type_units a >>= λ b.
      all_names_followed (following ds) 0 (places_of_names os) b) ds d
      ∙ bind_value (all_values (fixed_number (size_in_bytes i.size)) i.names)
      (λ os. unit_offsets_followed info i.size i.compile_units old >>= λ a. unit_offsets_followed info i.size i.type_units a >>= λ b. all_names_followed (following ds) 0 (places_of_names os) b) os o
      ∙ bind_value (unit_offsets_followed info i.size i.compile_units old) (λ a. unit_offsets_followed info i.size i.type_units a >>= λ b. all_names_followed (following ds) 0 (places_of_names os) b) a u
      ∙ bind_value (unit_offsets_followed info i.size i.type_units a) (λ b. all_names_followed (following ds) 0 (places_of_names os) b) b v

  -- with abbreviations in another order, and names that are sorted
  pub index_is : (es : List IndexDeclaration) → ((code : ℕ) → attributes_with es code ≡ attributes_with ds code) → (names : List ℕ) → names ≡ sorted_by (λ n. n) os
      → spelled_index_followed info i old ≡ all_names_followed (following es) 0 (once None names) b
  index_is es same names is =
      parts_followed
      ∙ ap (λ (l : List ℕ). all_names_followed (following ds) 0 (once None l) b) (sym is)
      ∙ sym (λ j. all_names_followed (record { index = i; attributes = λ code. same code j; info = info }) 0 (once None names) b)
