-- A slot by its two words: the laws that specs/Slot.antt states, and slots computed. Assumes nothing.
use Rattle.std.proofs.Common.{◌≡◌, ℕ, ◌+◌, ◌^◌, ◌<◌, [], ◌∷◌, refl, ◌∙◌, arith, lit<, lit≤}
use Rattle.failure.specs.Outcome.{Refused, Answer}
use Rattle.failure.specs.Failure.{OutsideMemory}
use Rattle.mem.specs.Memory.{Memory, Lent, lent, bytes_of, Bytes}
use Rattle.mem.specs.Opening.{bounded, apart, opens}
use Rattle.mem.specs.Place.{on, holds, place_of, bytes_at}
use Rattle.mem.specs.Word.{word_at, load}
use Rattle.mem.specs.Slot.{SlotByWords, ByLoads, SlotByLoads}
use Rattle.mem.proofs.Word.{two_words}
use Rattle.mem.proofs.Loaded.{load_found, load-stands}
use Rattle.mem.proofs.Bytes.{load_below}
use Rattle.mem.proofs.Accepted.{place-within, place_front}

-- a slot not refused, by the slice that holds it
pub by_words : SlotByWords
by_words m a v e =
    let l = load-stands m 8 a v e in
    record { spot = l.spot; held = l.held; sum = l.is ∙ two_words (bytes_of m l.spot.region) l.spot.offset }

-- a slot not refused in what is accepted, by what is loaded at its address and 4 bytes on
pub by_loads : SlotByLoads
by_loads l e a v h =
    let b = by_words l.regions a v h in
    let s = b.spot in
    let bytes = bytes_of l.regions s.region in
    let first = place_front l e a 8 s b.held 4 (lit< tt) (lit≤ tt) in
    let second = place-within l e a 8 s b.held 4 4 (lit< tt) (lit≤ tt) in
    record {
      low = word_at bytes s.offset;
      high = word_at bytes (s.offset + 4);
      first = load_found l.regions 4 a s first;
      second = load_found l.regions 4 (a + 4) (on 4 s) second;
      sum = b.sum;
      spot = s;
      first_held = first;
      second_held = second;
    }

-- both words have 32 bits, since lent bytes are below 256
pub words_below : (m : Memory) → Bytes m → (a v : ℕ) (b : ByLoads m a v) → (b.low < 2 ^ 32) × (b.high < 2 ^ 32)
words_below m h a v b = (load_below m h 4 a b.low b.first, load_below m h 4 (a + 4) b.high b.second)

-- slices that share addresses, and so are not accepted
shared : Memory
shared = (lent (1 ∷ 0 ∷ 0 ∷ 0 ∷ []) 8 (2 ∷ 0 ∷ 0 ∷ 0 ∷ 0 ∷ 0 ∷ 0 ∷ 0 ∷ []) 8).regions

-- there the slot at 8 is of the stack and the word at 8 of the section: `SlotByLoads` asks for what is accepted, and must
pub not_of_every_memory : ((m : Memory) (a v : ℕ) → load m 8 a ≡ Answer v → ByLoads m a v) → ⊥
unfolding shared load bytes_at holds
not_of_every_memory every =
    let b = every shared 8 2 refl in
    let q : Answer 1 ≡ Answer b.low = b.first in
    let one : b.low ≡ 1 = cc in
    omega (arith, b.sum)

-- slices that touch, and are accepted
abbrev pub touching : Lent
touching = lent (1 ∷ 2 ∷ 3 ∷ 4 ∷ 5 ∷ 6 ∷ 7 ∷ 8 ∷ []) 8 (9 ∷ 10 ∷ 11 ∷ 12 ∷ 13 ∷ 14 ∷ 15 ∷ 16 ∷ []) 16

-- a slot of the stack, written out
pub in_stack : ByLoads touching.regions 16 0x100f0e0d0c0b0a09
unfolding load bytes_at place_of holds
in_stack =
    record {
      low = 0x0c0b0a09;
      high = 0x100f0e0d;
      first = refl;
      second = refl;
      sum = refl;
      spot = record { region = 1; offset = 0 };
      first_held = refl;
      second_held = refl;
    }

-- a slot of the section, by the law
pub in_section : ByLoads touching.regions 8 0x0807060504030201
unfolding opens bounded apart load bytes_at holds
in_section = by_loads touching refl 8 0x0807060504030201 refl

-- a slot across the two is refused, though each of its words can be loaded: they are not from one slice
pub across :
    (load touching.regions 4 12 ≡ Answer 0x08070605) × (load touching.regions 4 16 ≡ Answer 0x0c0b0a09) ×
    (load touching.regions 8 12 ≡ Refused OutsideMemory)
unfolding load bytes_at holds
across = (refl, refl, refl)
