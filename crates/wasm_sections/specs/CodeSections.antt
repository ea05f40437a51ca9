-- The code section (WebAssembly core specification 3.0, binary format, code section): the number of bodies, and each body
-- after its size.
use Rattle.std.specs.Prelude.{◌≡◌, ◌⊎◌, ◌+◌, ◌-◌, ◌^◌, ℕ, IsErr, List, [], ◌∷◌, ◌++◌, length, Option, Some, None, Ok}
use Rattle.wasm_numbers.specs.Numbers.{u32}
use Rattle.wasm_operators.specs.Shortest.{short_number}
use Rattle.wasm_sections.specs.declared.code.Bodies.{Bodies}
use Rattle.wasm_sections.specs.declared.code.Body.{Body}
use Rattle.wasm_sections.specs.Parts.{bytes_part}

-- ---- as it is written: with the shortest encoding of each size

-- an entry: the size of a body, and the body
abbrev pub entry : List ℕ → List ℕ
entry raw = short_number (length raw) ++ raw

abbrev pub entries : List (List ℕ) → List ℕ
entries [] = []
entries (raw ∷ raws) = entry raw ++ entries raws

-- the contents of the section
abbrev pub code_section : List (List ℕ) → List ℕ
code_section raws = short_number (length raws) ++ entries raws

-- ---- as it is read: with any encoding of a size

-- a body in a file: the place of its first byte, and its bytes, without its size
pub record BodyAt : Type 0 where
  pub start : ℕ
  pub bytes : List ℕ

-- The text, which ends at this place of the file, is these bodies, each after its size.
abbrev pub AreBodies : (end : ℕ) → (text : List ℕ) → List BodyAt → Type 0
AreBodies end text [] = text ≡ []
AreBodies end text (b ∷ bs) =
    (following : List ℕ) × (u32 text ≡ Ok (length b.bytes, b.bytes ++ following)) × (b.start ≡ end - length (b.bytes ++ following))
    × AreBodies end following bs

-- The contents of a section, which end at this place of the file, are the number of these bodies, and the bodies.
abbrev pub IsCode : (end : ℕ) → (contents : List ℕ) → List BodyAt → Type 0
IsCode end contents bodies = (text : List ℕ) × (u32 contents ≡ Ok (length bodies, text)) × AreBodies end text bodies

-- ---- for values of the code

abbrev pub body_bytes : Body → List ℕ
body_bytes b = b.input.rest.now

abbrev pub place_of : Body → ℕ
place_of b = b.input.end - length b.input.rest.now

abbrev pub body_at : Body → BodyAt
body_at b = record { start = place_of b; bytes = body_bytes b }

-- A body is taken from those that are left: its function is the next. None only where no size and so many bytes are at the front;
-- or if the next function has the last index that there is.
abbrev pub TakesBody : Bodies → Option Body → Bodies → Type 0
TakesBody s None t = (s.next ≡ 2 ^ 64 - 1) ⊎ IsErr (bytes_part s.left.end s.left.rest.now)
TakesBody s (Some b) t =
    (b.func ≡ s.next) × (t.next ≡ s.next + 1) × (t.left.end ≡ s.left.end) × (b.input.end ≡ s.left.end - length t.left.rest.now)
    × (u32 s.left.rest.now ≡ Ok (length (body_bytes b), body_bytes b ++ t.left.rest.now))
