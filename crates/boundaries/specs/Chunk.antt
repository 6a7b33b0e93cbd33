-- `chunk_of` (document 01, "its chunk is handed back as that part of the section").
use Rattle.std.specs.Prelude.{List, [], ◌∷◌, ◌++◌, ◌≡◌, ℕ, ◌+◌}
use Rattle.std.specs.Borrow.{Bor}
use Rattle.boundaries.specs.Lending.{Lending, section1, section2}
use Rattle.boundaries.specs.Functions.{ChunkOfPc}

-- at 0xffc: four bytes of padding; at 0x1000 a chunk of 72 bytes with records at [0x4000, 0x4040); at 0x1048 one of 116 bytes with records at
-- [0x4048, 0x4088); three bytes that are too few for a header
abbrev pub lending : Lending
lending =
    record {
      section = 0 ∷ 0 ∷ 0 ∷ 0 ∷ (section2 2 ++ (section1 2 ++ (9 ∷ 9 ∷ 9 ∷ [])));
      section_base = 0xffc;
      stack = [];
      stack_base = 1;
    }

-- what is handed back for a pc is these bytes, from offset k of the section on
abbrev pub HandsBack : ℕ → ℕ → ℕ → List ℕ → Type 0
HandsBack arch pc k bytes =
    (s r : Bor (List ℕ)) → s.now ≡ lending.section → ChunkOfPc lending arch pc s r →
    (r.ref_ptr.1 ≡ s.ref_ptr.1 + k) × (r.now ≡ bytes)

-- the first chunk, the second, none; none where lookup is refused, with 17 and with 28
abbrev pub Chunks : Type 0
Chunks =
    HandsBack 2 0x4000 4 (section2 2) × HandsBack 2 0x403f 4 (section2 2) ×
    HandsBack 2 0x4048 76 (section1 2) × HandsBack 2 0x4087 76 (section1 2) ×
    HandsBack 2 0x4040 0 [] ×
    HandsBack 1 0x4000 0 [] ×
    HandsBack 0 0x4000 0 [] × HandsBack 3 0x4000 0 []
