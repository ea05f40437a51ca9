-- Where a list ends.
use Rattle.std.proofs.Common.{◌≡◌, ℕ, ◌+◌, ◌-◌, ◌≤◌, List, [], ◌∷◌, ◌++◌, length, drop, refl, sym, ap, ◌∙◌, append_assoc, arith, length-append}
use Rattle.std.proofs.lemmas.List.{drop-drop, drop_at}
use Rattle.dwarf_bytes.specs.declared.size.Size.{Size}
use Rattle.dwarf_expressions.specs.Expressions.{BeginWith}
use Rattle.dwarf_new_lists.specs.declared.kind.Lists.{Lists}
use Rattle.dwarf_new_lists.specs.Entries.{AnEntry}
use Rattle.dwarf_new_lists.specs.NewLists.{BeginsEntry}
use Rattle.dwarf_new_lists.proofs.Entries.{entry_local}

-- the bytes of the entries
pub front_of : (lists : Lists) (size : Size) (bytes : List ℕ) (es : List AnEntry) (rest : List ℕ) → BeginWith (BeginsEntry lists size) bytes es rest → (front : List ℕ) × (bytes ≡ front ++ rest)
front_of lists size bytes [] rest b = ([], b)
front_of lists size bytes (e ∷ es) rest b =
    let t = (entry_local lists size).takes bytes e b.0 b.1 in
    let f = front_of lists size b.0 es rest b.2 in
    (t.text ++ f.0, t.split ∙ (ap (λ (l : List ℕ). t.text ++ l) f.1 ∙ sym (append_assoc t.text f.0 rest)))

pub no_longer : (bytes front rest : List ℕ) → bytes ≡ front ++ rest → length rest ≤ length bytes
no_longer bytes front rest e = omega (arith, ap length e, length-append front rest)

-- the bytes that follow, in the section
pub rest_at : (section bytes front rest : List ℕ) (offset : ℕ) → bytes ≡ drop offset section → bytes ≡ front ++ rest → drop (offset + (length bytes - length rest)) section ≡ rest
rest_at section bytes front rest offset e f =
    let n : length bytes - length rest ≡ length front = omega (arith, ap length f, length-append front rest) in
    rw n (sym (drop-drop (length front) offset section) ∙ (ap (drop (length front)) (sym e ∙ f) ∙ drop_at front rest (length front) refl))
