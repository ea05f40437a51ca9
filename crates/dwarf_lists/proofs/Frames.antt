-- An entry is read whatever follows it.
use Rattle.std.proofs.Common.{◌≡◌, ℕ, ◌<◌, cond, eqb, ◌&&◌, List, [], ◌∷◌, ◌++◌, length, Ok, Err, refl, arith}
use Rattle.wasm_numbers.specs.Results.{◌>>=◌}
use Rattle.dwarf_bytes.specs.declared.fault.DebugFault.TheVariants.{Truncated}
use Rattle.dwarf_bytes.specs.declared.size.Size.{Size}
use Rattle.dwarf_bytes.specs.Numbers.{size_in_bytes, fixed_number}
use Rattle.dwarf_bytes.proofs.Local.{IsLocal, just_local, cond_local, then_local, fixed_local, shorter as any_shorter}
use Rattle.dwarf_bytes.proofs.Shorter.{none_of_size}
use Rattle.dwarf_expressions.proofs.Again.{sized_local, not_both}
use Rattle.dwarf_lists.specs.declared.entry.Kind.{Kind}
use Rattle.dwarf_lists.specs.declared.entry.Kind.TheVariants.{Ranges, Locations}
use Rattle.dwarf_lists.specs.Entries.{Entry, end, base, range, greatest, of_pair, expression_of, list_entry}

expression_local : (kind : Kind) → IsLocal (expression_of kind)
expression_local Ranges = just_local []
expression_local Locations = sized_local (fixed_number 2) (fixed_local 2)

pair_local : (kind : Kind) (most low high : ℕ) → IsLocal (of_pair kind most low high)
pair_local kind most low high =
    cond_local (eqb low most) (λ bytes. Ok (base high, bytes)) (λ bytes. cond (eqb low 0 && eqb high 0) (Ok (end, bytes)) (expression_of kind bytes >>= λ x. Ok (range low high x.0, x.1))) (just_local (base high))
    (cond_local (eqb low 0 && eqb high 0) (λ bytes. Ok (end, bytes)) (λ bytes. expression_of kind bytes >>= λ x. Ok (range low high x.0, x.1)) (just_local end)
    (then_local (expression_of kind) (λ expression bytes. Ok (range low high expression, bytes)) (expression_local kind) (λ expression. just_local (range low high expression))))

entry_local : (kind : Kind) (size : Size) → IsLocal (list_entry kind size)
unfolding list_entry
entry_local kind size =
    then_local (fixed_number (size_in_bytes size)) (λ low bytes. fixed_number (size_in_bytes size) bytes >>= λ high. of_pair kind (greatest size) low high.0 high.1) (fixed_local (size_in_bytes size))
    (λ low. then_local (fixed_number (size_in_bytes size)) (of_pair kind (greatest size) low) (fixed_local (size_in_bytes size)) (pair_local kind (greatest size) low))

no_entry : (kind : Kind) (size : Size) → list_entry kind size [] ≡ Err Truncated
unfolding list_entry
no_entry kind size = let e = none_of_size size in rw e refl

pub record EntryAt (kind : Kind) (size : Size) (bytes : List ℕ) (x : Entry) (rest : List ℕ) : Type 0 where
  pub text : List ℕ
  pub bytes_are : bytes ≡ text ++ rest
  pub reads : (following : List ℕ) → list_entry kind size (text ++ following) ≡ Ok (x, following)
  pub some : 0 < length text

some_text : (kind : Kind) (size : Size) (x : Entry) (text : List ℕ) → ((following : List ℕ) → list_entry kind size (text ++ following) ≡ Ok (x, following)) → 0 < length text
some_text kind size x [] reads = absurd (not_both (no_entry kind size) (reads []))
some_text kind size x (b ∷ text) reads = omega arith

pub entry_at : (kind : Kind) (size : Size) (bytes : List ℕ) (x : Entry) (rest : List ℕ) → list_entry kind size bytes ≡ Ok (x, rest) → EntryAt kind size bytes x rest
entry_at kind size bytes x rest r =
    let t = (entry_local kind size).takes bytes x rest r in
    record { text = t.text; bytes_are = t.split; reads = t.again; some = some_text kind size x t.text t.again }

pub shorter : (kind : Kind) (size : Size) (bytes : List ℕ) (x : Entry) (rest : List ℕ) → list_entry kind size bytes ≡ Ok (x, rest) → length rest < length bytes
shorter kind size = any_shorter (list_entry kind size) Truncated (entry_local kind size) (no_entry kind size)
