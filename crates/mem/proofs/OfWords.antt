-- A slot by its two words, the other way round: such words are a slot that is not refused, in every memory. Assumes nothing.
use Rattle.std.proofs.Common.{◌≡◌, ℕ, ◌+◌, ◌*◌, ◌^◌, sym, ap, ◌∙◌}
use Rattle.failure.specs.Outcome.{Answer}
use Rattle.mem.specs.Memory.{Memory, bytes_of}
use Rattle.mem.specs.Place.{Spot, on, place_of}
use Rattle.mem.specs.Word.{word_at, load}
use Rattle.mem.specs.Slot.{ByWords, ByLoads}
use Rattle.mem.proofs.Word.{two_words}
use Rattle.mem.proofs.Place.{place_joined}
use Rattle.mem.proofs.Loaded.{load_found}

pub of_words : (m : Memory) (a v : ℕ) → ByWords m a v → load m 8 a ≡ Answer v
of_words m a v b =
    let s = b.spot in
    load_found m 8 a s b.held ∙ ap Answer (two_words (bytes_of m s.region) s.offset ∙ sym b.sum)

-- what is loaded where a word is found is that word
is_word : (m : Memory) (a v : ℕ) (s : Spot) → place_of m a 4 ≡ Answer s → load m 4 a ≡ Answer v → v ≡ word_at (bytes_of m s.region) s.offset
is_word m a v s p e =
    let q : Answer v ≡ Answer (word_at (bytes_of m s.region) s.offset) = sym e ∙ load_found m 4 a s p in
    cc

pub of_loads : (m : Memory) (a v : ℕ) → ByLoads m a v → load m 8 a ≡ Answer v
of_loads m a v b =
    let s = b.spot in
    let bytes = bytes_of m s.region in
    let low = is_word m a b.low s b.first_held b.first in
    let high = is_word m (a + 4) b.high (on 4 s) b.second_held b.second in
    of_words m a v
    (record {
      spot = s;
      held = place_joined m a 4 4 s b.first_held b.second_held;
      sum = b.sum ∙ ap (λ (x : ℕ). x + 2 ^ 32 * b.high) low ∙ ap (λ (x : ℕ). word_at bytes s.offset + 2 ^ 32 * x) high;
    })
