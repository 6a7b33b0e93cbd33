-- Row tables at the bounds of what a sound section asks of them: those that it just allows, and those just past it.
use Rattle.std.specs.Prelude.{Bool, List, [], ◌∷◌, ◌++◌, map, ℕ, ◌+◌, length}
use Rattle.lookup.specs.declared.Record.{Record}
use Rattle.model.specs.Machine.{Tables}
use Rattle.model.specs.Sound.{good_table}

-- a section of these bytes, at address 1000 hexadecimal
abbrev pub tables_of : ℕ → List ℕ → Tables
tables_of arch bytes = record { arch = arch; section = record { base = 0x1000; bytes = bytes } }

-- a record of version 1 whose table is the section
abbrev pub record1 : Record
record1 = record { start = 0; end = 0; frame = 0; handlers = 0x1000; program = 0; limit = 0; version = 1 }

-- one of version 2 whose program is the section, up to the limit, with a table or without
abbrev pub record2 : ℕ → ℕ → Record
record2 handlers limit = record { start = 0; end = 0; frame = 0; handlers = handlers; program = 0x1000; limit = limit; version = 2 }

-- a row of version 1 with this offset, below 256
abbrev pub row1 : ℕ → List ℕ
row1 offset = offset ∷ 0 ∷ 0 ∷ 0 ∷ 36 ∷ 0 ∷ 0 ∷ 0 ∷ 0 ∷ 0 ∷ 0 ∷ 0 ∷ []

-- a count below 256
abbrev pub count1 : ℕ → List ℕ
count1 n = n ∷ 0 ∷ 0 ∷ 0 ∷ []

-- version 1 tables
abbrev pub tables1 : List (List ℕ)
tables1 =
    -- no row
    count1 0 ∷
    -- a count of 3 bytes
    (0 ∷ 0 ∷ 0 ∷ []) ∷
    -- one row, of offset 0
    (count1 1 ++ row1 0) ∷
    -- two rows, where the section ends with the first
    (count1 2 ++ row1 4) ∷
    -- one row, which lacks its last byte
    (count1 1 ++ (4 ∷ 0 ∷ 0 ∷ 0 ∷ 36 ∷ 0 ∷ 0 ∷ 0 ∷ 0 ∷ 0 ∷ 0 ∷ [])) ∷
    -- offsets that rise by one
    (count1 3 ++ row1 4 ++ row1 5 ++ row1 6) ∷
    -- two that are equal, the first or the last
    (count1 3 ++ row1 4 ++ row1 4 ++ row1 6) ∷
    (count1 3 ++ row1 4 ++ row1 6 ++ row1 6) ∷
    -- one that falls
    (count1 3 ++ row1 4 ++ row1 6 ++ row1 5) ∷ []

-- whether they are good
abbrev pub good1 : ℕ → List Bool
good1 arch = map (λ (bytes : List ℕ). good_table (tables_of arch bytes) record1) tables1

-- version 2 programs, each before a table
abbrev pub programs2 : ℕ → List (List ℕ)
programs2 below =
    -- END is the last byte
    (0 ∷ []) ∷
    -- there is none
    (65 ∷ []) ∷
    -- an advance, as the last offset of 32 bits allows it, then END
    (195 ∷ 255 ∷ 255 ∷ 255 ∷ 255 ∷ below ∷ 0 ∷ []) ∷
    -- one unit more
    (195 ∷ 128 ∷ 128 ∷ 128 ∷ 128 ∷ (below + 1) ∷ 0 ∷ []) ∷ []

-- whether they are good
abbrev pub good2 : ℕ → ℕ → List Bool
good2 arch below = map (λ (bytes : List ℕ). good_table (tables_of arch bytes) (record2 0x1000 (0x1000 + length bytes))) (programs2 below)
