-- The bodies of a module that was read, one after the other: those that are passed, and those that are left.
use Rattle.std.proofs.Common.{◌≡◌, ◌≢◌, ℕ, ◌+◌, ◌-◌, ◌≤◌, ◌^◌, nat_le, Bool, true, if◌then◌else◌, List, [], ◌∷◌, ◌++◌, length, take, drop, Option, Some, None, MatchOption, Result, Ok, Err, IsErr, refl, sym, ap, ◌∙◌, subst, inl, inr, arith, append_assoc, length-append}
use Rattle.std.proofs.lemmas.Bool.{cases_lt}
use Rattle.std.proofs.lemmas.Bool.Decides.{nat_tests}
use Rattle.std.proofs.lemmas.List.{append-nil}
use Rattle.wasm_numbers.specs.Numbers.{u32}
use Rattle.wasm_numbers.specs.Results.{with_fault}
use Rattle.wasm_sections.specs.declared.code.Bodies.{Bodies}
use Rattle.wasm_sections.specs.declared.code.Body.{Body}
use Rattle.wasm_sections.specs.declared.fault.ModuleError.{ModuleError}
use Rattle.wasm_sections.specs.declared.fault.ModuleFault.TheVariants as fault
use Rattle.wasm_sections.specs.CodeSections.{BodyAt, AreBodies, IsCode, body_at, body_bytes, place_of, TakesBody}
use Rattle.wasm_sections.specs.Parts.{fault_here, item_fault, number, piece, bytes_part}
use Rattle.wasm_sections.proofs.TypeReadingLemmas.{first_gives}
use Rattle.wasm_module.specs.declared.parsed.ParsedModule.{ParsedModule}
use Rattle.wasm_module.specs.ModuleCode.{AreBodiesOf, IsBodyOfFunction, HasNoFunctionBody}
use Rattle.wasm_module.specs.ReadFrom.{IsModuleOf}
use Rattle.wasm_module.specs.ReadModules.{components_of, HasBodiesOf}
use Rattle.wasm_module.proofs.ModuleCodeLemmas.{same_entry, none_empty, module_read}
use Rattle.wasm_module.proofs.ModuleLawLemmas.{one_spelling}

-- ---- the bodies that are left

-- These bodies are passed, and the others of the module are left.
pub record BodiesLeft (source : ParsedModule) (passed : List BodyAt) (left : Bodies) : Type 0 where
  pub others : List BodyAt
  pub are_bodies : AreBodiesOf (components_of source) (passed ++ others)
  pub next_is : left.next ≡ source.imported + length passed
  pub others_are : AreBodies left.left.end left.left.rest.now others
  pub few : length source.func_types.items ≤ 2 ^ 32

left_are :
    (code : Option (ℕ × List ℕ)) (bodies : List BodyAt) (s : Bodies) → MatchOption code (bodies ≡ []) (λ c. IsCode c.0 c.1 bodies) → HasBodiesOf code s →
    AreBodies s.left.end s.left.rest.now bodies
left_are None bodies s none h = subst (λ (bs : List BodyAt). AreBodies s.left.end s.left.rest.now bs) (sym none) h
left_are (Some code) bodies s is h =
    let given = h (length bodies) is.0 (ap (with_fault (item_fault code.0 code.1)) is.1) in
    subst (λ (end : ℕ). AreBodies end s.left.rest.now bodies) (sym given.1) (subst (λ (l : List ℕ). AreBodies code.0 l bodies) (sym given.0) is.2)

pub none_passed :
    (file : List ℕ) (source : ParsedModule) (left : Bodies) → IsModuleOf file source → left.next ≡ source.imported → HasBodiesOf (components_of source).code left →
    BodiesLeft source [] left
none_passed file source left reads next h =
    let spelling = one_spelling file (components_of source) reads.spells in
    let known = module_read file (components_of source) spelling.sections reads.spells spelling.are in
    let code = known.code in
    record {
      others = code.bodies;
      are_bodies = code.are_bodies;
      next_is = omega arith;
      others_are = left_are (components_of source).code code.bodies left code.are_bodies.are_code h;
      few = known.few;
    }

-- ---- the next body

next_taken :
    (others : List BodyAt) (s t : Bodies) (b : Body) → AreBodies s.left.end s.left.rest.now others → TakesBody s (Some b) t →
    (more : List BodyAt) × (others ≡ body_at b ∷ more) × AreBodies t.left.end t.left.rest.now more
next_taken [] s t b are takes = absurd (none_empty s.left.rest.now (body_bytes b) t.left.rest.now are takes.4)
next_taken (c ∷ more) s t b are takes =
    let bytes = body_bytes b in
    let rest : List ℕ = t.left.rest.now in
    let place : place_of b ≡ s.left.end - length (bytes ++ rest) =
    let len = length-append bytes rest in let e = takes.3 in let n = length bytes in let k = length rest in omega arith in
    let first = same_entry s.left.end s.left.rest.now c (body_at b) are.0 rest are.1 takes.4 are.2 place in (
      more,
      ap (λ (x : BodyAt). x ∷ more) first.0,
      subst (λ (end : ℕ). AreBodies end rest more) (sym takes.2) (subst (λ (l : List ℕ). AreBodies s.left.end l more) first.1 are.3),
    )

-- the next one is passed
pub record PassesNext (source : ParsedModule) (passed : List BodyAt) (b : Body) (t : Bodies) : Type 0 where
  pub function_is : b.func ≡ source.imported + length passed
  pub left : BodiesLeft source (passed ++ body_at b ∷ []) t
  pub after : List BodyAt
  pub are_bodies : AreBodiesOf (components_of source) (passed ++ body_at b ∷ after)

pub one_passed :
    (source : ParsedModule) (passed : List BodyAt) (s t : Bodies) (r : Option Body) (b : Body) → BodiesLeft source passed s → r ≡ Some b → TakesBody s r t →
    PassesNext source passed b t
one_passed source passed s t r b p i takes =
    let taken : TakesBody s (Some b) t = subst (λ (o : Option Body). TakesBody s o t) i takes in
    let next = next_taken p.others s t b p.others_are taken in
    let here : AreBodiesOf (components_of source) (passed ++ body_at b ∷ next.0) =
    subst (λ (l : List BodyAt). AreBodiesOf (components_of source) l) (ap (λ (l : List BodyAt). passed ++ l) next.1) p.are_bodies in
    record {
      function_is = taken.0 ∙ p.next_is;
      left = record {
        others = next.0;
        are_bodies = subst (λ (l : List BodyAt). AreBodiesOf (components_of source) l) (sym (append_assoc passed (body_at b ∷ []) next.0)) here;
        next_is = let len = length-append passed (body_at b ∷ []) in let n = p.next_is in let k = taken.1 in omega arith;
        others_are = next.2;
        few = p.few;
      };
      after = next.0;
      are_bodies = here;
    }

-- ---- the end

-- a body is there
is_there :
    (end : ℕ) (text bytes following : List ℕ) → u32 text ≡ Ok (length bytes, bytes ++ following) → IsErr (bytes_part end text) → ⊥
is_there end text bytes following e wrong =
    let all : List ℕ = bytes ++ following in
    let enough : nat_le (length bytes) (length all) ≡ true = let len = length-append bytes following in grind (arith, nat_tests) in
    let got : Result (List ℕ × List ℕ) ModuleError = Ok (take (length bytes) all, drop (length bytes) all) in
    let given : bytes_part end text ≡ got =
    first_gives (number end text) (λ x. piece x.0 end x.1) (length bytes, all) (ap (with_fault (item_fault end text)) e)
    ∙ ap (λ (b : Bool). if b then got else Err (fault_here end all fault.Truncated)) enough in
    let none : IsErr got = subst (λ (r : Result (List ℕ × List ℕ) ModuleError). IsErr r) given wrong in
    absurd cc

none_left :
    (source : ParsedModule) (passed others : List BodyAt) (s t : Bodies) → AreBodiesOf (components_of source) (passed ++ others) → s.next ≡ source.imported + length passed →
    AreBodies s.left.end s.left.rest.now others → length source.func_types.items ≤ 2 ^ 32 → TakesBody s None t → others ≡ []
none_left source passed [] s t p next are few takes = refl
none_left source passed (c ∷ more) s t p next are few takes =
    elim takes [
      | inl full ↦
          let count : length (passed ++ c ∷ more) ≡ length source.func_types.items - source.imported = p.are_all in
          let len = length-append passed (c ∷ more) in
          absurd (omega arith)
      | inr wrong ↦ absurd (is_there s.left.end s.left.rest.now c.bytes are.0 are.1 wrong)
    ]

pub all_passed :
    (source : ParsedModule) (passed : List BodyAt) (s t : Bodies) (r : Option Body) → BodiesLeft source passed s → r ≡ None → TakesBody s r t →
    AreBodiesOf (components_of source) passed
all_passed source passed s t r p i takes =
    let taken : TakesBody s None t = subst (λ (o : Option Body). TakesBody s o t) i takes in
    let none = none_left source passed p.others s t p.are_bodies p.next_is p.others_are p.few taken in
    subst (λ (l : List BodyAt). AreBodiesOf (components_of source) l) (ap (λ (l : List BodyAt). passed ++ l) none ∙ append-nil passed) p.are_bodies

-- ---- the body of a function

-- Bodies are passed, of functions before this one.
pub record PassedBefore (source : ParsedModule) (index : ℕ) (left : Bodies) : Type 0 where
  pub passed : List BodyAt
  pub left_is : BodiesLeft source passed left
  pub before : source.imported ≤ index → source.imported + length passed ≤ index

pub none_before :
    (file : List ℕ) (source : ParsedModule) (index : ℕ) (left : Bodies) → IsModuleOf file source → left.next ≡ source.imported → HasBodiesOf (components_of source).code left →
    PassedBefore source index left
none_before file source index left reads next h = record { passed = []; left_is = none_passed file source left reads next h; before = λ most. omega arith }

module _ (source : ParsedModule) (index : ℕ) (s t : Bodies) (r : Option Body) where
  pub one_before : (b : Body) → PassedBefore source index s → r ≡ Some b → TakesBody s r t → b.func ≢ index → PassedBefore source index t
  one_before b p i takes other =
      let next = one_passed source p.passed s t r b p.left_is i takes in
      record {
        passed = p.passed ++ body_at b ∷ [];
        left_is = next.left;
        before = λ most.
            let least = p.before most in let len = length-append p.passed (body_at b ∷ []) in
            elim (cases_lt (source.imported + length p.passed) index) [
              | inl less ↦ omega arith
              | inr more ↦ absurd (other (next.function_is ∙ omega arith))
            ];
      }

  pub found_before : (b : Body) → PassedBefore source index s → r ≡ Some b → TakesBody s r t → b.func ≡ index → IsBodyOfFunction (components_of source) index (body_at b)
  found_before b p i takes same =
      let next = one_passed source p.passed s t r b p.left_is i takes in
      record { before = p.passed; after = next.after; are_bodies = next.are_bodies; index_is = sym same ∙ next.function_is }

  pub none_found_of : PassedBefore source index s → r ≡ None → TakesBody s r t → HasNoFunctionBody (components_of source) index
  none_found_of p i takes =
      let all = all_passed source p.passed s t r p.left_is i takes in
      elim (cases_lt index source.imported) [
        | inl less ↦ inl less
        | inr more ↦ inr (let count = all.are_all in let least = p.before more in omega arith)
      ]
