-- A slot by its two words (document 02 (b)): "a slot not refused is the word at its address plus 2^32 times the word 4 bytes on, both
-- from one slice". A slot is 8 bytes, a word is 4. Two statements, which are laws: `by_words` and `by_loads` of proofs/Slot.antt.
use Rattle.std.specs.Prelude.{◌≡◌, ℕ, ◌+◌, ◌*◌, ◌^◌, true}
use Rattle.failure.specs.Outcome.{Answer}
use Rattle.mem.specs.Memory.{Memory, Lent, bytes_of}
use Rattle.mem.specs.Opening.{opens}
use Rattle.mem.specs.Place.{Spot, on, place_of}
use Rattle.mem.specs.Word.{word_at, load}

-- the slot at address a is v: in the slice that holds it, the word where it stands plus 2^32 times the word 4 bytes on
pub record ByWords (m : Memory) (a v : ℕ) : Type 0 where
  pub spot : Spot
  pub held : place_of m a 8 ≡ Answer spot
  pub sum : v ≡ word_at (bytes_of m spot.region) spot.offset + 2 ^ 32 * word_at (bytes_of m spot.region) (spot.offset + 4)

-- a slot not refused is so in every memory, accepted or not
abbrev pub SlotByWords : Type 0
SlotByWords = (m : Memory) (a v : ℕ) → load m 8 a ≡ Answer v → ByWords m a v

-- the slot at address a is v: what is loaded at its address plus 2^32 times what is loaded 4 bytes on, both from one slice
pub record ByLoads (m : Memory) (a v : ℕ) : Type 0 where
  pub low : ℕ
  pub high : ℕ
  -- "the word at its address", and "the word 4 bytes on"
  pub first : load m 4 a ≡ Answer low
  pub second : load m 4 (a + 4) ≡ Answer high
  -- "plus 2^32 times"
  pub sum : v ≡ low + 2 ^ 32 * high
  -- "both from one slice"
  pub spot : Spot
  pub first_held : place_of m a 4 ≡ Answer spot
  pub second_held : place_of m (a + 4) 4 ≡ Answer (on 4 spot)

-- a slot not refused is so in all that is accepted; where slices share addresses, a word may be found in an earlier slice than its slot
abbrev pub SlotByLoads : Type 0
SlotByLoads = (l : Lent) → opens l ≡ true → (a v : ℕ) → load l.regions 8 a ≡ Answer v → ByLoads l.regions a v
