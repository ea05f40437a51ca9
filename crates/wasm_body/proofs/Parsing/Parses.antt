-- Parsing on lists goes over a front of operators. When it stops, the body is complete, or the rest has a fault.
use Rattle.std.proofs.Common.{◌≡◌, ℕ, zero, suc, ◌+◌, ◌-◌, ◌<◌, ◌≤◌, List, [], ◌∷◌, ◌++◌, length, map, true, Ok, refl, sym, ap, subst, ◌∙◌, arith, length-append}
use Rattle.std.specs.List.{AllByRecursion}
use Rattle.wasm_operators.specs.declared.types.Opcode.TheVariants.{Byte, Prefixed}
use Rattle.wasm_operators.specs.Operations.{RawOperation}
use Rattle.wasm_operators.specs.Opcodes.{IsOpcode}
use Rattle.wasm_operators.specs.Spelling.{Spells, read_operation}
use Rattle.wasm_operators.specs.OperatorList.{Lists}
use Rattle.wasm_operators.specs.Laws.{ReadingAgrees}
use Rattle.wasm_body.specs.SourceTree.{Sequence}
use Rattle.wasm_body.specs.Frames.{SequenceFrame}
use Rattle.wasm_body.specs.Naming.{Occurrence, named_in}
use Rattle.wasm_body.specs.Parsing.Accepted.{placed, mark, IsNamed, validated, location_at, has_location, Setting, Handled, handled}
use Rattle.wasm_body.specs.Parsing.Progress.{Layer, Progress, Within, Whole, NoBody, frames_of, further, progress_after}
use Rattle.wasm_body.specs.Parsing.Lists.{continue_from, parsed_from}
use Rattle.wasm_body.proofs.Structure.ReadFrames.{progress_frames, further_frames, Goes}
use Rattle.wasm_numbers.proofs.ResultLemmas.{bind_ok}

-- operators that were gone over, from one progress to another
pub record Over {V : Type 0} (given : Setting V) (p : Progress Occurrence) (v : V) (place : ℕ) (bytes : List ℕ) (xs : List Occurrence) (q : Progress Occurrence) (w : V) (at : ℕ) (rest : List ℕ) : Type 0 where
  pub spelt : Lists (map placed xs) place bytes rest
  pub have_locations : AllByRecursion (λ x. has_location given.locations x.place ≡ true) xs
  pub located : AllByRecursion (λ x. x.location ≡ location_at given.locations x.place) xs
  pub passes : validated given.check v (map placed xs) ≡ Ok w
  pub goes : Goes (IsNamed given.environment) (progress_frames p) (map mark xs)
  pub ends : progress_after p (map mark xs) ≡ q
  pub place_is : at + length rest ≡ place + length bytes

-- an encoding begins with a byte
pub record Begins (text : List ℕ) : Type 0 where
  pub first : ℕ
  pub others : List ℕ
  pub is : text ≡ first ∷ others

opcode_begins : (o : RawOperation) (first : List ℕ) → IsOpcode o.opcode first → Begins first
opcode_begins o first h = begins o.opcode first h
  where
    begins : (c : _) (first : List ℕ) → IsOpcode c first → Begins first
    begins (Byte b) first h = record { first = b; others = []; is = h.2 }
    begins (Prefixed p n) first h = record { first = p; others = h.2; is = h.3 }

pub spelling_begins : (o : RawOperation) (text : List ℕ) → Spells o text → Begins text
spelling_begins o text h =
    let b = opcode_begins o h.first h.opcode in
    record { first = b.first; others = b.others ++ h.others; is = h.parts ∙ ap (λ (t : List ℕ). t ++ h.others) b.is }

-- the result of handling an operator that passes
handles : {V : Type 0} (given : Setting V) (v w : V) (fs : List (SequenceFrame Occurrence)) (place : ℕ) (bytes rest : List ℕ) (x : Occurrence)
    → x.place ≡ place → read_operation bytes ≡ Ok (x.spelt, rest) → has_location given.locations x.place ≡ true → x.location ≡ location_at given.locations x.place
    → given.check v (placed x) ≡ Ok w → named_in given.environment fs x.spelt ≡ Ok x.named
    → handled given v fs place bytes ≡ Ok (record { operator = x; rest = rest; state = w })
handles {V} given v w fs place bytes rest x at r l m c n =
    subst (λ (k : ℕ). handled given v fs k bytes ≡ Ok (record { operator = x; rest = rest; state = w })) at
    (rw (r, l, c, n) (ap (λ (k : ℕ). Ok (record { operator = record { spelt = x.spelt; place = x.place; location = k; named = x.named }; rest = rest; state = w })) (sym m)))

-- ---- over a front

module _ {V : Type 0} (given : Setting V) (agrees : ReadingAgrees) where
  -- parsing goes on after the front as it would from there
  pub record Continues (turns : ℕ) (p : Progress Occurrence) (v : V) (place : ℕ) (bytes : List ℕ) (q : Progress Occurrence) (w : V) (at : ℕ) (rest : List ℕ) : Type 0 where
    pub left : ℕ
    pub enough : length rest ≤ left
    pub same : parsed_from given turns p v place bytes ≡ parsed_from given left q w at rest

  over_none : (turns : ℕ) (p : Progress Occurrence) (v : V) (place : ℕ) (bytes : List ℕ) (q : Progress Occurrence) (w : V) (at : ℕ) (rest : List ℕ)
      → length bytes ≤ turns → Over given p v place bytes [] q w at rest → Continues turns p v place bytes q w at rest
  over_none turns p v place bytes q w at rest enough o =
      let b : bytes ≡ rest = o.spelt in
      let e : p ≡ q = o.ends in
      let s : Ok v ≡ Ok w = o.passes in
      let r : v ≡ w = cc in
      let long : length bytes ≡ length rest = ap length b in
      let a : at ≡ place = (let h = o.place_is in omega arith) in record {
        left = turns;
        enough = omega arith;
        same =
            ap (λ (z : Progress Occurrence). parsed_from given turns z v place bytes) e
            ∙ (ap (λ (z : V). parsed_from given turns q z place bytes) r ∙ (ap (λ (z : ℕ). parsed_from given turns q w z bytes) (sym a) ∙ ap (parsed_from given turns q w at) b));
      }

  -- one operator was gone over
  pub record OneOver (turns : ℕ) (ls : List (Layer Occurrence)) (s : Sequence Occurrence) (v : V) (place : ℕ) (bytes : List ℕ) (x : Occurrence) (xs : List Occurrence) (q : Progress Occurrence) (w : V) (at : ℕ) (rest : List ℕ) : Type 0 where
    pub state : V
    pub following : List ℕ
    pub shorter : length following < length bytes
    pub handles : handled given v (frames_of ls) place bytes ≡ Ok (record { operator = x; rest = following; state = state })
    pub over : Over given (further (Within ls s) (mark x)) state (place + (length bytes - length following)) following xs q w at rest
    pub parses : parsed_from given (suc turns) (Within ls s) v place bytes ≡ parsed_from given turns (further (Within ls s) (mark x)) state (place + (length bytes - length following)) following

  pub one_over : (turns : ℕ) (ls : List (Layer Occurrence)) (s : Sequence Occurrence) (v : V) (place : ℕ) (bytes : List ℕ) (x : Occurrence) (xs : List Occurrence) (q : Progress Occurrence) (w : V) (at : ℕ) (rest : List ℕ)
      → Over given (Within ls s) v place bytes (x ∷ xs) q w at rest → OneOver turns ls s v place bytes x xs q w at rest
  one_over turns ls s v place bytes x xs q w at rest o =
      let text = o.spelt.1 in
      let after = o.spelt.2 in
      let parts : bytes ≡ text ++ after = o.spelt.3 in
      let spells = o.spelt.4 in
      let b = spelling_begins x.spelt text spells in
      let cons : bytes ≡ b.first ∷ (b.others ++ after) = parts ∙ ap (λ (t : List ℕ). t ++ after) b.is in
      let c = bind_ok (given.check v (placed x)) (λ u. validated given.check u (map placed xs)) w o.passes in
      let long : length bytes ≡ length text + length after = ap length parts ∙ length-append text after in
      let some : length text ≡ suc (length b.others) = ap length b.is in
      let read : read_operation bytes ≡ Ok (x.spelt, after) = ap read_operation parts ∙ agrees.again x.spelt text after spells in
      let h = handles given v c.0 (frames_of ls) place bytes after x o.spelt.0 read o.have_locations.0 o.located.0 c.1 o.goes.0 in
      let moved : place + (length bytes - length after) ≡ place + length text = omega arith in
      let go = λ (k : Handled V). parsed_from given turns (further (Within ls s) (mark k.operator)) k.state (place + (length bytes - length k.rest)) k.rest in
      record {
        state = c.0;
        following = after;
        shorter = omega arith;
        handles = h;
        over = record {
          spelt = subst (λ (k : ℕ). Lists (map placed xs) k after rest) (sym moved) o.spelt.5;
          have_locations = o.have_locations.1;
          located = o.located.1;
          passes = c.2;
          goes = subst (λ f. Goes (IsNamed given.environment) f (map mark xs)) (sym (further_frames (Within ls s) (mark x))) o.goes.1;
          ends = o.ends;
          place_is = (let i = o.place_is in omega arith);
        };
        parses = turn turns ls s v place bytes b.first (b.others ++ after) cons ∙ ap (λ r. continue_from place r go) h;
      }
    where
      turn : (turns : ℕ) (ls : List (Layer Occurrence)) (s : Sequence Occurrence) (v : V) (place : ℕ) (bytes : List ℕ) (first : ℕ) (others : List ℕ) → bytes ≡ first ∷ others
          → parsed_from given (suc turns) (Within ls s) v place bytes
          ≡ continue_from place (handled given v (frames_of ls) place bytes) (λ k. parsed_from given turns (further (Within ls s) (mark k.operator)) k.state (place + (length bytes - length k.rest)) k.rest)
      turn turns ls s v place bytes first others e =
          subst (λ (z : List ℕ). parsed_from given (suc turns) (Within ls s) v place z
          ≡ continue_from place (handled given v (frames_of ls) place z) (λ k. parsed_from given turns (further (Within ls s) (mark k.operator)) k.state (place + (length z - length k.rest)) k.rest)) (sym e) refl

  -- parsing goes over a front
  pub over : (xs : List Occurrence) (turns : ℕ) (p : Progress Occurrence) (v : V) (place : ℕ) (bytes : List ℕ) (q : Progress Occurrence) (w : V) (at : ℕ) (rest : List ℕ)
      → length bytes ≤ turns → Over given p v place bytes xs q w at rest → Continues turns p v place bytes q w at rest
  over [] turns p v place bytes q w at rest enough o = over_none turns p v place bytes q w at rest enough o
  over (x ∷ xs) turns NoBody v place bytes q w at rest enough o = absurd o.goes
  over (x ∷ xs) turns (Whole b) v place bytes q w at rest enough o = absurd o.goes.1
  over (x ∷ xs) zero (Within ls s) v place bytes q w at rest enough o = let i = one_over 0 ls s v place bytes x xs q w at rest o in absurd (let j = i.shorter in omega arith)
  over (x ∷ xs) (suc turns) (Within ls s) v place bytes q w at rest enough o =
      let i = one_over turns ls s v place bytes x xs q w at rest o in
      let j = over xs turns (further (Within ls s) (mark x)) i.state (place + (length bytes - length i.following)) i.following q w at rest (let k = i.shorter in omega arith) i.over in
      record { left = j.left; enough = j.enough; same = i.parses ∙ j.same }
