-- Where the fields of the structs that cross the C interface stand in memory, by C's rule: in the order of their declaration, each at
-- the next multiple of its alignment.
use Rattle.std.specs.Prelude.{List, [], ◌∷◌, map, ◌++◌, ℕ, zero, suc, ◌+◌, ◌-◌, ◌*◌, ◌/◌, max, get_or}

-- what a field takes: so many bytes, at an offset that is a multiple of its alignment
pub record Field : Type 0 where
  pub size : ℕ
  pub alignment : ℕ

-- the least multiple of a from n on
abbrev pub aligned : ℕ → ℕ → ℕ
aligned a n = (n + (a - 1)) / a * a

-- the offsets of fields, the first of which comes from n on
abbrev pub offsets_from : ℕ → List Field → List ℕ
offsets_from n [] = []
offsets_from n (f ∷ fs) = aligned f.alignment n ∷ offsets_from (aligned f.alignment n + f.size) fs

-- the offset of the k-th, counted from 0
abbrev pub offset : ℕ → List Field → ℕ
offset k fs = get_or (offsets_from 0 fs) k 0

-- where fields end
abbrev pub end_from : ℕ → List Field → ℕ
end_from n [] = n
end_from n (f ∷ fs) = end_from (aligned f.alignment n + f.size) fs

-- the largest alignment
abbrev pub largest : List Field → ℕ
largest [] = 1
largest (f ∷ fs) = max f.alignment (largest fs)

-- a struct has the largest alignment of its fields, and is filled up to a multiple of it
abbrev pub struct : List Field → Field
struct fs = record { size = aligned (largest fs) (end_from 0 fs); alignment = largest fs }

-- n elements in a row
abbrev pub array : ℕ → Field → Field
array n f = record { size = n * f.size; alignment = f.alignment }

-- the offsets of n elements of so many bytes, from an offset on
abbrev pub elements : ℕ → ℕ → ℕ → List ℕ
elements zero size start = []
elements (suc n) size start = start ∷ elements n size (start + size)

-- the types of fields: usize; u32; u16; u8 and bool
abbrev pub word : Field
word = record { size = 8; alignment = 8 }

abbrev pub half : Field
half = record { size = 4; alignment = 4 }

abbrev pub quarter : Field
quarter = record { size = 2; alignment = 2 }

abbrev pub byte : Field
byte = record { size = 1; alignment = 1 }

-- a register file
abbrev pub regs : List Field
regs = array 41 word ∷ []

-- a record
abbrev pub function_record : List Field
function_record = word ∷ word ∷ half ∷ word ∷ word ∷ word ∷ byte ∷ []

-- a state
abbrev pub state : List Field
state = byte ∷ half ∷ word ∷ array 32 quarter ∷ array 32 quarter ∷ []

-- an unwinding
abbrev pub unwinding : List Field
unwinding = struct regs ∷ word ∷ word ∷ word ∷ word ∷ byte ∷ byte ∷ []

-- frames
abbrev pub frames : List Field
frames = word ∷ array 16 word ∷ array 16 word ∷ array 16 word ∷ []

-- the answers
abbrev pub number : List Field
number = half ∷ word ∷ []

abbrev pub file : List Field
file = struct regs ∷ half ∷ []

abbrev pub function : List Field
function = half ∷ struct function_record ∷ []

abbrev pub read : List Field
read = half ∷ word ∷ word ∷ []

abbrev pub changed : List Field
changed = half ∷ struct state ∷ []

abbrev pub ended : List Field
ended = half ∷ struct state ∷ word ∷ []

abbrev pub row : List Field
row = half ∷ word ∷ word ∷ []

abbrev pub decided : List Field
decided = struct regs ∷ half ∷ half ∷ []

abbrev pub stepped : List Field
stepped = struct regs ∷ struct function_record ∷ word ∷ byte ∷ half ∷ []

abbrev pub batch : List Field
batch = struct regs ∷ struct frames ∷ word ∷ byte ∷ half ∷ []

abbrev pub raised : List Field
raised = struct unwinding ∷ word ∷ word ∷ half ∷ half ∷ []

abbrev pub resumed : List Field
resumed = struct regs ∷ struct unwinding ∷ word ∷ half ∷ half ∷ []

-- all answers in a row, and the sizes and alignments of all structs
abbrev pub layout : List Field
layout =
    map struct
    (number ∷ file ∷ function ∷ read ∷ changed ∷ ended ∷ row ∷ decided ∷ stepped ∷ batch ∷ raised ∷ resumed ∷ []) ++
    (array 18 word ∷ array 18 word ∷ [])

-- the fields of every struct that crosses
abbrev pub crossing : List (List Field)
crossing =
    regs ∷ function_record ∷ state ∷ unwinding ∷ frames ∷ number ∷ file ∷ function ∷ read ∷ changed ∷ ended ∷ row ∷ decided ∷
    stepped ∷ batch ∷ raised ∷ resumed ∷ layout ∷ []
