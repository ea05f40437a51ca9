-- Rewriting a body: the bytes of an accepted one, how they execute as their source does, and why a body isn't rewritten.
use Rattle.std.specs.Prelude.{◌≡◌, ◌⊎◌, ℕ, List, ◌++◌, map, Option}
use Rattle.std.specs.Fn.{Shared}
use Rattle.std.specs.Borrow.{Bor}
use Rattle.std.specs.List.Sorted.{IsStrictlyIncreasing}
use Rattle.walrus_ir.specs.Function.{Function}
use Rattle.walrus_ir.specs.declared.error.WalkError.TheVariants as walk
use Rattle.wasm_body.specs.declared.error.ParseError.TheVariants as parse
use Rattle.wasm_body.specs.declared.error.EmitError.TheVariants as emit
use Rattle.wasm_body.specs.SourceTree.{Body}
use Rattle.wasm_body.specs.Translation.{Located}
use Rattle.wasm_body.specs.Naming.{Environment, NamedOperation, Occurrence}
use Rattle.wasm_body.specs.NormalForm.{typing_of, name_at, named_body, body_tree}
use Rattle.wasm_body.specs.RewrittenTree.{rewritten_text}
use Rattle.wasm_body.specs.TextLaws.{IsTextOf}
use Rattle.wasm_body.specs.ExecutionLaws.{ExecuteAlike}
use Rattle.wasm_body.specs.LocationLaws.{LocationsAgree}
use Rattle.wasm_body.specs.ValidityLaws.{KnownOperand, StaysValid}
use Rattle.wasm_body.specs.Pairs.{Pair}
use Rattle.wasm_body.specs.Parsing.Accepted.{Accepted}
use Rattle.walrus_parser.specs.Bodies.{ParseInput, setting_with, AcceptsBody, RefusesBody, AreGiven}
use Rattle.walrus_body.specs.EmittedInstructions.{LentPairs, Left}
use Rattle.walrus_rewrite.specs.declared.error.RewriteError.{RewriteError}
use Rattle.walrus_rewrite.specs.declared.error.RewriteError.TheVariants.{Parse, Walk, Emit}
use Rattle.walrus_rewrite.specs.RawBodies.{EmitInput, IsRawBody, HasNoParsedBody, AppendsPairs}

-- ---- relation to the source

-- The places of location pairs strictly increase.
abbrev pub PlacesRise : List Pair → Type 0
PlacesRise pairs = IsStrictlyIncreasing (map (λ (p : Pair). p.1) pairs)

-- The operators that are written for this body of these operators are the text of its normal form. For every list of outcomes
-- and every bound on turns they execute the same operators and end alike; they are valid if the source's are. They are the text
-- of the rewritten body, which gives for each of them the operator of the source that it comes from, and its location. The pairs
-- contain these locations; and along every run they give the locations of the source's run.
pub record KeepsSource (env : Environment) (xs : List Occurrence) (b : Body Occurrence) (pairs : List Pair) : Type 0 where
  pub text : List (Located NamedOperation)
  pub is_text : IsTextOf (typing_of env) (body_tree env b) text
  pub is_rewritten : text ≡ rewritten_text (typing_of env) (named_body b)
  pub executes : ExecuteAlike (map name_at xs) text
  pub stays_valid : StaysValid KnownOperand (typing_of env) (map name_at xs) text
  pub locations : map (λ (p : Pair). p.0) pairs ≡ map (λ y. y.location) text
  pub places : PlacesRise pairs
  pub honest : LocationsAgree pairs text (map name_at xs)

-- ---- the bytes

module _ {S F : Type 0} (calls : Shared F (Bor ℕ × Unit {0}) ℕ) (i : ParseInput S F) (by : EmitInput) where
  -- The bytes are accepted as a body, the function is the parsed one, and the raw body of its normal form is appended.
  pub record Rewrites {Z : Type 0} (made : Function) (mapping : List (ℕ × ℕ)) (old new : List ℕ) (entry : Option (LentPairs Z)) (exit : Left (LentPairs Z))
      : Type 0 where
    pub accepts : AcceptsBody calls i made mapping
    pub raw : List ℕ
    pub pairs : List Pair
    pub is_raw_body : IsRawBody by (body_tree i.environment accepts.body) raw pairs
    pub keeps : KeepsSource i.environment accepts.accepted.operators accepts.body pairs
    pub bytes : new ≡ old ++ raw
    pub appends_pairs : AppendsPairs pairs entry exit

  -- the bytes are accepted as this body, with some location function if the caller passed one
  pub record IsAcceptedAs (b : Body Occurrence) : Type 0 where
    pub locations : Option (ℕ → ℕ)
    pub are_given : AreGiven calls i locations
    pub accepted : Accepted (setting_with i locations) i.bytes b

  -- The bytes are refused by the parse; or they are accepted, and there is no raw body, for one of the few reasons for which a
  -- parsed body has none. Or memory ran out.
  abbrev pub RefusesRewriting : RewriteError → Type 0
  RefusesRewriting (Parse f) = RefusesBody calls i f
  RefusesRewriting (Walk w) = w ≡ walk.Memory
  RefusesRewriting (Emit e) = (e ≡ emit.Memory) ⊎ ((b : Body Occurrence) × IsAcceptedAs b × HasNoParsedBody by (body_tree i.environment b) e)

-- memory ran out, or the fault isn't one of parsing
abbrev pub IsOfWriting : RewriteError → Type 0
IsOfWriting (Parse f) = f.error ≡ parse.Memory
IsOfWriting (Walk w) = Unit {0}
IsOfWriting (Emit e) = Unit {0}
