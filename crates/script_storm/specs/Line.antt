-- The lines of a generated script as texts: those of the set-up, and the one of each word.
use Rattle.std.specs.Prelude.{ℕ, ◌+◌, ◌-◌, ◌/◌, ◌%◌, ◌==◌, nat_lt, nat_le, if◌then◌else◌, List, [], ◌∷◌, ◌++◌, replicate, codes}
use Rattle.std.specs.Fmt.{decimal}
use Rattle.hex.specs.Hex.{encode_lower}

-- two LANs with an end system on each, and an intermediate system between them
abbrev pub set_up_lines : List (List ℕ)
set_up_lines =
    codes "lan x 2 1497"
    ∷ codes "lan y 3 264"
    ∷ codes "es a 490a00"
    ∷ codes "es b 490b00"
    ∷ codes "is r 490900"
    ∷ codes "port a x 02000000000a"
    ∷ codes "port b y 02000000000b"
    ∷ codes "port r x 020000000901"
    ∷ codes "port r y 020000000902"
    ∷ codes "route a - r x"
    ∷ codes "route b - r y"
    ∷ codes "route r 490a a x"
    ∷ codes "route r 490b b y"
    ∷ codes "tsap b bb"
    ∷ codes "start"
    ∷ []

-- the number so far back from the last of `count`, or 1 where there is none
abbrev pub number_back : ℕ → ℕ → ℕ
number_back count back = if nat_lt back count then count - back else 1

-- the formats of a connect request
abbrev pub format_text : ℕ → List ℕ
format_text value = if value % 2 == 0 then codes "normal" else codes "extended"

-- a connect request of a to b
abbrev pub connect_line : ℕ → List ℕ
connect_line value = codes "connect a aa b bb " ++ format_text value ++ codes " 128 exp sum -"

-- a connect response
abbrev pub accept_line : ℕ → List ℕ
accept_line end = codes "accept " ++ decimal end ++ codes " extended 128 exp sum -"

-- a normal unit: one octet, 1 to 300 times
abbrev pub data_line : ℕ → ℕ → List ℕ
data_line value end = codes "data " ++ decimal end ++ codes " " ++ encode_lower (replicate (1 + value / 256 % 300) (value % 256))

-- an expedited unit of one octet
abbrev pub expedite_line : ℕ → ℕ → List ℕ
expedite_line value end = codes "expedite " ++ decimal end ++ codes " " ++ encode_lower (value % 256 ∷ [])

-- the system of a delivery
abbrev pub system_text : ℕ → List ℕ
system_text value = if value / 8 % 3 == 0 then codes "a" else if value / 8 % 3 == 1 then codes "b" else codes "r"

-- the delivery of a frame
abbrev pub deliver_line : ℕ → ℕ → List ℕ
deliver_line value frames = codes "deliver " ++ decimal (number_back frames (value % 8)) ++ codes " " ++ system_text value

-- a disconnect request, a refusal or a credit
abbrev pub closing_line : ℕ → ℕ → List ℕ
closing_line value end =
    if value % 16 == 0 then codes "disconnect " ++ decimal end ++ codes " -"
    else if value % 16 == 1 then codes "refuse " ++ decimal end ++ codes " -"
    else codes "window " ++ decimal end ++ codes " " ++ decimal (value % 256)

-- the line of each kind, for a value, after so many frames and for an end
abbrev pub line_of : ℕ → ℕ → ℕ → ℕ → List ℕ
line_of kind value frames end =
    if kind == 0 then connect_line value
    else if kind == 1 then accept_line end
    else if nat_le kind 4 then data_line value end
    else if kind == 5 then expedite_line value end
    else if nat_le kind 12 then deliver_line value frames
    else if nat_le kind 14 then codes "tick"
    else closing_line value end

-- the line of a word, after so many frames were numbered and so many ends made
abbrev pub line_text : ℕ → ℕ → ℕ → List ℕ
line_text word frames ends = line_of (word % 16) (word / 16) frames (number_back ends (word / 16 % 4))
