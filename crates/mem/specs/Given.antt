-- What a call is lent, by the struct in which it comes.
use Rattle.mem.specs.Memory.{Lent, lent}
use Rattle.mem.specs.declared.Memory.{Memory}

-- the section and the stack, each with its base address
abbrev pub lent_by : Memory → Lent
lent_by m = lent m.section.now m.section_base m.stack.now m.stack_base
