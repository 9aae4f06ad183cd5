-- Document 01, "Flag word"; "Flag hex 40000000 joins the six" (document 02, request 7).
use Rattle.std.specs.Prelude.{ℕ, ◌+◌, ◌*◌, ◌/◌, ◌%◌, Bool, not, eqb}
use Rattle.model.specs.declared.Flags.{Flags}

-- "32 bits, in hex as Android publishes them"
abbrev pub NTK : ℕ
NTK = 0x10000000

abbrev pub STP : ℕ
STP = 0x20000000

abbrev pub MTK : ℕ
MTK = 0x08000000

abbrev pub CTP : ℕ
CTP = 0x04000000

abbrev pub RTF : ℕ
RTF = 0x00020000

abbrev pub CTK : ℕ
CTK = 0x00008000

abbrev pub NOH : ℕ
NOH = 0x40000000

-- the digit of weight m, a power of two, in the word w: 1 where that bit is set
abbrev pub bit : ℕ → ℕ → ℕ
bit m w = w / m % 2

-- "Any of the six may be set together", and the seventh
unfoldable pub flags_of : ℕ → Flags
flags_of w =
    record {
      ntk = eqb (bit NTK w) 1;
      stp = eqb (bit STP w) 1;
      mtk = eqb (bit MTK w) 1;
      ctp = eqb (bit CTP w) 1;
      rtf = eqb (bit RTF w) 1;
      ctk = eqb (bit CTK w) 1;
      noh = eqb (bit NOH w) 1;
    }

-- w with every bit but the seven cleared
abbrev pub seven_of : ℕ → ℕ
seven_of w =
    bit NTK w * NTK + bit STP w * STP + bit MTK w * MTK + bit CTP w * CTP + bit RTF w * RTF + bit CTK w * CTK + bit NOH w * NOH

-- "4: start: a bit outside the six", and "4 is now a bit outside the seven": the seven alone do not make up the word
unfoldable pub has_other_bit : ℕ → Bool
has_other_bit w = not (eqb (seven_of w) w)
