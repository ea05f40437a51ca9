-- What of a program doesn't move the address.
use Rattle.std.proofs.Common.{◌≡◌, ℕ, ◌-◌, List, [], ◌∷◌, ◌++◌, length, take, Ok, Err, refl, sym, ap, subst, ◌∙◌}
use Rattle.std.specs.List.{flat_map}
use Rattle.std.proofs.lemmas.List.{append-nil}
use Rattle.std.proofs.lemmas.List.Concat.{flat_map-append}
use Rattle.wasm_numbers.proofs.ResultLemmas.{bind_ok, ok_same}
use Rattle.dwarf_bytes.specs.declared.fault.DebugFault.{DebugFault}
use Rattle.dwarf_bytes.specs.declared.fault.DebugFault.TheVariants.{Truncated}
use Rattle.dwarf_line.specs.declared.operation.Operation.{Operation}
use Rattle.dwarf_line.specs.Kept.{line_kept, line_kept_operation, kept_of, KeepsOfLines}
use Rattle.dwarf_line.specs.LineProgram.{Parameters}
use Rattle.dwarf_line.specs.Operations.{line_operation}
use Rattle.dwarf_line.specs.Repeated.{Begin, ReadsAs}
use Rattle.dwarf_bytes.proofs.Local.{Takes, IsLocal}
use Rattle.dwarf_line.proofs.Local.{operation_local, operation_some}
use Rattle.dwarf_line.proofs.RepeatedLemmas.{spells-append, spells_nothing, spells_one, spells_all, all_is, taken_front}

pub keeps_nothing : (p : Parameters) → KeepsOfLines p [] []
keeps_nothing p = record { each = []; spells = spells_nothing (line_kept_operation p); texts_are = refl }

pub keeps-append : (p : Parameters) (a b : List ℕ) (ks ls : List (List ℕ)) → KeepsOfLines p a ks → KeepsOfLines p b ls → KeepsOfLines p (a ++ b) (ks ++ ls)
keeps-append p a b ks ls first second = record {
  each = first.each ++ second.each;
  spells = spells-append (line_kept_operation p) first.each second.each a b first.spells second.spells;
  texts_are = flat_map-append (λ texts. texts) first.each second.each ∙ ap (λ z. z ++ flat_map (λ texts. texts) second.each) first.texts_are ∙ ap (λ z. ks ++ z) second.texts_are;
}

-- what is kept of the bytes of one operation
kept_again : (p : Parameters) (o : Operation) (text following : List ℕ) → line_operation p (text ++ following) ≡ Ok (o, following) → line_kept_operation p (text ++ following) ≡ Ok (line_kept p o text, following)
kept_again p o text following e = rw (e, taken_front (text ++ following) text following refl) refl

pub keeps_again : (p : Parameters) (o : Operation) (text : List ℕ) → ((following : List ℕ) → line_operation p (text ++ following) ≡ Ok (o, following)) → KeepsOfLines p text (line_kept p o text)
keeps_again p o text again = record {
  each = line_kept p o text ∷ [];
  spells = spells_one (line_kept_operation p) (line_kept p o text) text (λ following. kept_again p o text following (again following));
  texts_are = append-nil (line_kept p o text);
}

-- the same of an operation that these bytes spell
spelt_again : (p : Parameters) (o : Operation) (text following : List ℕ) → ReadsAs (line_operation p) (o ∷ []) text → line_operation p (text ++ following) ≡ Ok (o, following)
spelt_again p o text following spells = let s = spells following in s.1 ∙ ap (λ (z : List ℕ). Ok (o, z)) s.2

pub keeps_one : (p : Parameters) (o : Operation) (text : List ℕ) → ReadsAs (line_operation p) (o ∷ []) text → KeepsOfLines p text (line_kept p o text)
keeps_one p o text spells = keeps_again p o text (λ following. spelt_again p o text following spells)

kept_local : (p : Parameters) → IsLocal (line_kept_operation p)
kept_local p = record { takes = takes } where
  takes : (bytes : List ℕ) (k : List (List ℕ)) (rest : List ℕ) → line_kept_operation p bytes ≡ Ok (k, rest) → Takes (line_kept_operation p) bytes k rest
  takes bytes k rest e =
      let x = bind_ok (line_operation p bytes) (λ x. Ok (line_kept p x.0 (take (length bytes - length x.1) bytes), x.1)) (k, rest) e in
      let t = (operation_local p).takes bytes x.0.0 x.0.1 x.1 in
      let text : take (length bytes - length x.0.1) bytes ≡ t.text = taken_front bytes t.text x.0.1 t.split in
      let same = ok_same {E = DebugFault} (line_kept p x.0.0 (take (length bytes - length x.0.1) bytes), x.0.1) (k, rest) x.2 in
      let rests : x.0.1 ≡ rest = ap (λ (z : List (List ℕ) × List ℕ). z.1) {x = (line_kept p x.0.0 (take (length bytes - length x.0.1) bytes), x.0.1)} same in
      let value : line_kept p x.0.0 t.text ≡ k = ap (line_kept p x.0.0) (sym text) ∙ ap (λ (z : List (List ℕ) × List ℕ). z.0) {x = (line_kept p x.0.0 (take (length bytes - length x.0.1) bytes), x.0.1)} same in
      record {
        text = t.text;
        split = t.split ∙ ap (λ (z : List ℕ). t.text ++ z) rests;
        again = λ following. kept_again p x.0.0 t.text following (t.again following) ∙ ap (λ z. Ok (z, following)) value;
      }

kept_some : (p : Parameters) → line_kept_operation p [] ≡ Err Truncated
kept_some p = rw (operation_some p) refl

-- what is kept of a whole program
pub kept_is : (p : Parameters) (program : List ℕ) (texts : List (List ℕ)) → KeepsOfLines p program texts → kept_of p program ≡ Ok texts
kept_is p program texts k = rw (all_is (line_kept_operation p) Truncated k.each program (kept_local p) (kept_some p) (spells_all (line_kept_operation p) k.each program k.spells)) (ap (λ z. Ok z) k.texts_are)

-- of operations that these bytes spell something is kept
pub record KeepsSome (p : Parameters) (bytes : List ℕ) : Type 0 where
  pub texts : List (List ℕ)
  pub keeps : KeepsOfLines p bytes texts

pub keeps_some : (p : Parameters) (os : List Operation) (bytes : List ℕ) → Begin (line_operation p) os bytes [] → KeepsSome p bytes
keeps_some p [] bytes reads = record { texts = []; keeps = subst (λ (z : List ℕ). KeepsOfLines p z []) (sym reads) (keeps_nothing p) }
keeps_some p (o ∷ os) bytes reads =
    let t = (operation_local p).takes bytes o reads.0 reads.1 in
    let rest = keeps_some p os reads.0 reads.2 in
    record {
      texts = line_kept p o t.text ++ rest.texts;
      keeps = subst (λ (z : List ℕ). KeepsOfLines p z (line_kept p o t.text ++ rest.texts)) (sym t.split) (keeps-append p t.text reads.0 (line_kept p o t.text) rest.texts (keeps_again p o t.text t.again) rest.keeps);
    }
