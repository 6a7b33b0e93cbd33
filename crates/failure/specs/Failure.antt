-- The numbers with which a call is turned back, and who causes each (document 01, "Turned back, by who causes it", and document 02,
-- request by request). The names are ps-unwind's; it has none from 27 on.
use Rattle.std.specs.Prelude.{Bool, false, ◌||◌, List, [], ◌∷◌, ℕ, codes, eqb, if◌then◌else◌}
use Rattle.failure.specs.declared.Failure.{Failure}
use Rattle.failure.specs.declared.Failure.TheVariants as failure

-- a fifth remember in a state program
abbrev pub RememberStackOverflow : ℕ
RememberStackOverflow = 10

-- a register number that the architecture's file does not have
abbrev pub UnknownRegister : ℕ
UnknownRegister = 11

-- the CFA that a state gives is 0
abbrev pub BadCfaRule : ℕ
BadCfaRule = 12

-- a fault in a chunk's header, its size or its end; a magic of 0 is none
abbrev pub BadEkoHeader : ℕ
BadEkoHeader = 17

-- a record, frame word, state program or row breaks its rules, where no other number says how
abbrev pub BadEkoRecord : ℕ
BadEkoRecord = 18

-- the left neighbour of the record found ends above its start, or the right one starts below its end
abbrev pub EkoUnsorted : ℕ
EkoUnsorted = 19

-- the caller's sp is lower than the frame's, or equal past the first frame
abbrev pub StackNotAdvancing : ℕ
StackNotAdvancing = 20

-- a catch below the chosen number, the chosen frame with another sp or without catch, or an end before it
abbrev pub HandlerFrameMissed : ℕ
HandlerFrameMissed = 22

-- fp is the base and is 0 or no multiple of 8
abbrev pub Misaligned : ℕ
Misaligned = 23

-- a row's neighbour breaks the strict order of offsets, or a delta is 0
abbrev pub EkoAmbiguousCallSite : ℕ
EkoAmbiguousCallSite = 24

-- an interrupted frame has a version 1 word of kind 1 or 2
abbrev pub EkoAsyncFrame : ℕ
EkoAsyncFrame = 25

-- the bytes to be read lie whole in neither slice
abbrev pub OutsideMemory : ℕ
OutsideMemory = 27

-- the opening is broken, the architecture is not 1 or 2, or a state counts more than 32 pairs
abbrev pub BadOpening : ℕ
BadOpening = 28

-- 1,024 frames were given, and the walk goes on
abbrev pub TooManyFrames : ℕ
TooManyFrames = 29

-- the limit is met before a byte that a program or a row table needs (document 02 (c))
abbrev pub EkoTruncated : ℕ
EkoTruncated = 30

-- a uleb has no end in five bytes or is above 4294967295 (document 02 (c))
abbrev pub BadUleb : ℕ
BadUleb = 31

-- a 33rd register is saved (document 02 (c))
abbrev pub TooManySaved : ℕ
TooManySaved = 32

-- the number of each case of a Failure
abbrev pub number : Failure → ℕ
number failure.RememberStackOverflow = RememberStackOverflow
number failure.UnknownRegister = UnknownRegister
number failure.BadCfaRule = BadCfaRule
number failure.BadEkoHeader = BadEkoHeader
number failure.BadEkoRecord = BadEkoRecord
number failure.EkoUnsorted = EkoUnsorted
number failure.StackNotAdvancing = StackNotAdvancing
number failure.HandlerFrameMissed = HandlerFrameMissed
number failure.Misaligned = Misaligned
number failure.EkoAmbiguousCallSite = EkoAmbiguousCallSite
number failure.EkoAsyncFrame = EkoAsyncFrame
number failure.OutsideMemory = OutsideMemory
number failure.BadOpening = BadOpening
number failure.TooManyFrames = TooManyFrames
number failure.EkoTruncated = EkoTruncated
number failure.BadUleb = BadUleb
number failure.TooManySaved = TooManySaved

-- the name of each case, as it prints
abbrev pub name : Failure → List ℕ
name failure.RememberStackOverflow = codes "RememberStackOverflow"
name failure.UnknownRegister = codes "UnknownRegister"
name failure.BadCfaRule = codes "BadCfaRule"
name failure.BadEkoHeader = codes "BadEkoHeader"
name failure.BadEkoRecord = codes "BadEkoRecord"
name failure.EkoUnsorted = codes "EkoUnsorted"
name failure.StackNotAdvancing = codes "StackNotAdvancing"
name failure.HandlerFrameMissed = codes "HandlerFrameMissed"
name failure.Misaligned = codes "Misaligned"
name failure.EkoAmbiguousCallSite = codes "EkoAmbiguousCallSite"
name failure.EkoAsyncFrame = codes "EkoAsyncFrame"
name failure.OutsideMemory = codes "OutsideMemory"
name failure.BadOpening = codes "BadOpening"
name failure.TooManyFrames = codes "TooManyFrames"
name failure.EkoTruncated = codes "EkoTruncated"
name failure.BadUleb = codes "BadUleb"
name failure.TooManySaved = codes "TooManySaved"

-- n is one of the numbers
abbrev pub one_of : ℕ → List ℕ → Bool
one_of n [] = false
one_of n (m ∷ ms) = eqb n m || one_of n ms

-- caused by the host
abbrev pub host : List ℕ
host = BadOpening ∷ OutsideMemory ∷ TooManyFrames ∷ HandlerFrameMissed ∷ []

-- caused by the table maker
abbrev pub table_maker : List ℕ
table_maker =
    RememberStackOverflow ∷ UnknownRegister ∷ BadEkoHeader ∷ BadEkoRecord ∷ EkoUnsorted ∷ EkoAmbiguousCallSite ∷ EkoTruncated ∷ BadUleb ∷
    TooManySaved ∷ []

-- caused by the running job's registers
abbrev pub registers : List ℕ
registers = BadCfaRule ∷ StackNotAdvancing ∷ Misaligned ∷ EkoAsyncFrame ∷ []

-- who causes a refusal; Nobody where no refusal has the number
pub data Cause : Type 0 where
  Host TableMaker Registers Nobody : Cause

-- who causes the refusals with a number
unfoldable pub cause_of : ℕ → Cause
cause_of n =
    if one_of n host then Host
    else if one_of n table_maker then TableMaker
    else if one_of n registers then Registers
    else Nobody
