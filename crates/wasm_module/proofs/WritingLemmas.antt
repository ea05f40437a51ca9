-- The bytes that are written, piece by piece.
use Rattle.std.proofs.Common.{◌≡◌, ℕ, ◌+◌, List, [], ◌++◌, length, Option, Result, Ok, Err, IfOk, OnOk, ap, subst, ◌∙◌, length-append, arith}
use Rattle.std.specs.Io.KnownBytes.{Appends}
use Rattle.wasm_operators.specs.Shortest.{short_number}
use Rattle.wasm_sections.specs.CodeSections.{entry}
use Rattle.wasm_module.specs.Pieces.{appends_nothing, appends_then}
use Rattle.wasm_sections.specs.Sections.{section}
use Rattle.wasm_module.specs.WrittenModules.{Puts}

-- ---- to a writer

pub puts_nothing : (known : Option (List ℕ)) (at : ℕ) → Puts known known at at []
puts_nothing known at = record { appends = appends_nothing known; end_is = omega arith }

pub puts_then :
    (a b c : Option (List ℕ)) (at middle end : ℕ) (first second : List ℕ) → Puts a b at middle first → Puts b c middle end second →
    Puts a c at end (first ++ second)
puts_then a b c at middle end first second p q = record {
  appends = appends_then a b c first second p.appends q.appends;
  end_is = let all = length-append first second in let x = p.end_is in let y = q.end_is in omega arith;
}

pub puts_same : (a b : Option (List ℕ)) (at end : ℕ) (bytes others : List ℕ) → bytes ≡ others → Puts a b at end bytes → Puts a b at end others
puts_same a b at end bytes others e p = subst (λ (l : List ℕ). Puts a b at end l) e p

-- a size, which was counted before, and a body of this size
pub puts_entry :
    (a b c : Option (List ℕ)) (at start end len : ℕ) (raw : List ℕ) → Puts a b at start (short_number len) → len ≡ length raw → Appends b c raw → end ≡ start + len →
    Puts a c at end (entry raw)
puts_entry a b c at start end len raw sized count body is =
    puts_then a b c at start end (short_number (length raw)) raw (puts_same a b at start (short_number len) (short_number (length raw)) (ap short_number count) sized) (record {
      appends = body;
      end_is = is ∙ ap (λ (n : ℕ). start + n) count;
    })

-- a section of these contents
pub appends_section :
    (a b : Option (List ℕ)) (at end id : ℕ) (contents others : List ℕ) → contents ≡ others → Puts a b at end (section id contents) → Appends a b (section id others)
appends_section a b at end id contents others e p = subst (λ (l : List ℕ). Appends a b (section id l)) e p.appends

-- ---- of a result

pub if_so : {A E : Type 0} {P Q : A → Type 0} (r : Result A E) → IfOk r P → ((a : A) → P a → Q a) → IfOk r Q
if_so (Ok a) p f = f a p
if_so (Err e) p f = tt

pub if_both : {A E X : Type 0} {P Q : A → Type 0} (r : Result A E) → IfOk r P → OnOk r X → ((a : A) → P a → X → Q a) → IfOk r Q
if_both (Ok a) p x f = f a p x
if_both (Err e) p x f = tt

pub ok_so : {A E X Y : Type 0} (r : Result A E) → OnOk r X → (X → Y) → OnOk r Y
ok_so (Ok a) x f = f x
ok_so (Err e) x f = tt
