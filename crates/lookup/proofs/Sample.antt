-- A closed section: two chunks in falling order of addresses, a record without length, padding, and a tail. Its tables are sound,
-- and lookup computes. Assumes nothing.
use mathlib.Core.Path.{◌≡◌, refl}
use mathlib.Core.List.{List, [], ◌∷◌}
use Rattle.std.specs.Prelude.{None, Some}
use Prim.Native.Nat.{ℕ}
use Rattle.failure.specs.Outcome.{Answer}
use Rattle.lookup.specs.Field.{word}
use Rattle.lookup.specs.Header.{stride, chunk_at, faulty, head_at}
use Rattle.lookup.specs.Record.{start_at, end_at, address_of, handlers_of, record_at, record_at2, record_of, holds, bad_record}
use Rattle.lookup.specs.Search.{halve, left_meets, right_meets, settle, search}
use Rattle.lookup.specs.Tables.{chunks_from, chunks, records}
use Rattle.lookup.specs.Lookup.{in_range, search_in, lookup}
use Rattle.lookup.specs.Sound.{IsSound}
use Rattle.lookup.proofs.Tested.{sound_test, sound_tested}

-- at address 1000 hexadecimal, for architecture 2: version 2 with [2000, 2008), [2008, 2008), [2008, 200c); version 1 with [1f00, 1f10)
abbrev pub sample : List ℕ
sample =
    69 ∷ 75 ∷ 85 ∷ 87 ∷ 2 ∷ 2 ∷ 1 ∷ 0 ∷ 3 ∷ 0 ∷ 0 ∷ 0 ∷ 56 ∷ 0 ∷ 0 ∷ 0 ∷
    240 ∷ 15 ∷ 0 ∷ 0 ∷ 8 ∷ 0 ∷ 0 ∷ 0 ∷ 52 ∷ 0 ∷ 0 ∷ 0 ∷ 236 ∷ 15 ∷ 0 ∷ 0 ∷
    0 ∷ 0 ∷ 0 ∷ 0 ∷ 0 ∷ 0 ∷ 0 ∷ 0 ∷ 224 ∷ 15 ∷ 0 ∷ 0 ∷ 4 ∷ 0 ∷ 0 ∷ 0 ∷
    53 ∷ 0 ∷ 0 ∷ 128 ∷ 0 ∷ 0 ∷ 0 ∷ 0 ∷ 0 ∷ 0 ∷ 0 ∷ 0 ∷ 69 ∷ 75 ∷ 85 ∷ 87 ∷
    1 ∷ 2 ∷ 1 ∷ 0 ∷ 1 ∷ 0 ∷ 0 ∷ 0 ∷ 32 ∷ 0 ∷ 0 ∷ 0 ∷ 180 ∷ 14 ∷ 0 ∷ 0 ∷
    16 ∷ 0 ∷ 0 ∷ 0 ∷ 0 ∷ 0 ∷ 0 ∷ 0 ∷ 0 ∷ 0 ∷ 0 ∷ 0 ∷ 69 ∷ 75 ∷ 85 ∷ []

pub sample_sound : IsSound sample 0x1000 2
unfolding sound_test records chunks chunks_from head_at faulty chunk_at stride word record_of record_at record_at2 start_at end_at address_of handlers_of bad_record
sample_sound = sound_tested sample 0x1000 2 refl

-- a pc in the last record of the first chunk
pub sample_found : lookup sample 0x1000 0x200b 2 ≡
    Answer
    (Some
    (record {
      function = record { start = 0x2008; end = 0x200c; frame = 0; handlers = 0x1035; program = 0x1035; limit = 0x1038; version = 2 };
      chunk = record { offset = 0; version = 2; stride = 12; count = 3; size = 56 };
    }))
unfolding lookup chunks chunks_from head_at faulty chunk_at stride word record_of record_at record_at2 start_at end_at address_of handlers_of bad_record holds in_range search_in search settle left_meets right_meets halve
sample_found = refl

-- one in no record
pub sample_none : lookup sample 0x1000 0x200c 2 ≡ Answer None
unfolding lookup chunks chunks_from head_at faulty chunk_at stride word record_of record_at record_at2 start_at end_at address_of handlers_of bad_record holds in_range search_in search settle left_meets right_meets halve
sample_none = refl
