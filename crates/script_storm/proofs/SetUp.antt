-- The lines of the set-up are read: each computes to its line, once its word is known to name one.
use Rattle.std.proofs.Common.{◌≡◌, ℕ, Bool, true, false, List, [], ◌∷◌, Ok, refl, codes}
use Rattle.nsap.specs.declared.port.Port.{Port}
use Rattle.nsap.specs.Text.{hex_octets}
use Rattle.hex.specs.Hex.{decode_pairs}
use Rattle.script_lines.specs.declared.words.Dialect.{Dialect}
use Rattle.script_lines.specs.declared.line.Line.{Line}
use Rattle.script_lines.specs.declared.line.Line.TheVariants as lines
use Rattle.script_lines.specs.declared.system.LanRow.{LanRow}
use Rattle.script_lines.specs.Field.{fields_of, is_name, number_of, title_of, station_of, prefix_of, octets_of}
use Rattle.script_lines.specs.Grammar.{line_read, text_read}
use Rattle.script_lines.specs.Known.{Declared, KnownSystem, is_second, nothing_declared}
use Rattle.script_lines.specs.Reading.{end_system_of, port_lan_of, route_lan_of, new_title, new_station, new_prefix, selector_of, new_selector}
use Rattle.script_lines.specs.Script.{Says}
use Rattle.script_storm.specs.Line.{set_up_lines}
use Rattle.script_storm.specs.Read.{RunsStorms}

abbrev pub stage : Dialect → List LanRow → List KnownSystem → Bool → Declared
stage dialect lans systems started =
    record { dialect = dialect; settings = (nothing_declared dialect).settings; lans = lans; systems = systems; paths = []; started = started; second = is_second dialect; versioned = false }

abbrev pub x : LanRow
x = record { name = codes "x"; bound = 2 }

abbrev pub y : LanRow
y = record { name = codes "y"; bound = 3 }

abbrev port : ℕ → List ℕ → Port
port lan snpa = record { lan = lan; snpa = snpa }

abbrev pub a : List Port → List (List ℕ) → KnownSystem
a ports routes = record { name = codes "a"; is_end = true; title = 73 ∷ 10 ∷ 0 ∷ []; ports = ports; routes = routes; selectors = [] }

abbrev pub b : List Port → List (List ℕ) → List (List ℕ) → KnownSystem
b ports routes selectors = record { name = codes "b"; is_end = true; title = 73 ∷ 11 ∷ 0 ∷ []; ports = ports; routes = routes; selectors = selectors }

abbrev pub r : List Port → List (List ℕ) → KnownSystem
r ports routes = record { name = codes "r"; is_end = false; title = 73 ∷ 9 ∷ 0 ∷ []; ports = ports; routes = routes; selectors = [] }

abbrev snpa : ℕ → ℕ → List ℕ
snpa high low = 2 ∷ 0 ∷ 0 ∷ 0 ∷ high ∷ low ∷ []

abbrev pub a_on : List Port
a_on = port 0 (snpa 0 10) ∷ []

abbrev pub b_on : List Port
b_on = port 1 (snpa 0 11) ∷ []

abbrev r_on_x : List Port
r_on_x = port 0 (snpa 9 1) ∷ []

abbrev pub r_on : List Port
r_on = port 0 (snpa 9 1) ∷ port 1 (snpa 9 2) ∷ []

abbrev all : List (List ℕ)
all = [] ∷ []

abbrev to_a : List (List ℕ)
to_a = (73 ∷ 10 ∷ []) ∷ []

abbrev pub to_both : List (List ℕ)
to_both = (73 ∷ 10 ∷ []) ∷ (73 ∷ 11 ∷ []) ∷ []

abbrev pub bb : List (List ℕ)
bb = (187 ∷ []) ∷ []

abbrev both : List LanRow
both = x ∷ y ∷ []

lan_x : (dialect : Dialect) → RunsStorms dialect → line_read (stage dialect [] [] false) (codes "lan x 2 1497")
    ≡ Ok (record { line = lines.Lan 0 2 1497; names = stage dialect (x ∷ []) [] false })
unfolding line_read text_read fields_of is_name number_of
lan_x dialect runs =
    let named = runs.0 in
    rw named refl

lan_y : (dialect : Dialect) → RunsStorms dialect → line_read (stage dialect (x ∷ []) [] false) (codes "lan y 3 264")
    ≡ Ok (record { line = lines.Lan 1 3 264; names = stage dialect both [] false })
unfolding line_read text_read fields_of is_name number_of
lan_y dialect runs =
    let named = runs.0 in
    rw named refl

es_a : (dialect : Dialect) → RunsStorms dialect → line_read (stage dialect both [] false) (codes "es a 490a00")
    ≡ Ok (record { line = lines.Es 0 (73 ∷ 10 ∷ 0 ∷ []); names = stage dialect both (a [] [] ∷ []) false })
unfolding line_read text_read fields_of is_name new_title title_of hex_octets
es_a dialect runs = let named = runs.1.0 in rw named refl

es_b : (dialect : Dialect) → RunsStorms dialect → line_read (stage dialect both (a [] [] ∷ []) false) (codes "es b 490b00")
    ≡ Ok (record { line = lines.Es 1 (73 ∷ 11 ∷ 0 ∷ []); names = stage dialect both (a [] [] ∷ b [] [] [] ∷ []) false })
unfolding line_read text_read fields_of is_name new_title title_of hex_octets
es_b dialect runs = let named = runs.1.0 in rw named refl

is_r : (dialect : Dialect) → RunsStorms dialect → line_read (stage dialect both (a [] [] ∷ b [] [] [] ∷ []) false) (codes "is r 490900")
    ≡ Ok (record { line = lines.Is 2 (73 ∷ 9 ∷ 0 ∷ []); names = stage dialect both (a [] [] ∷ b [] [] [] ∷ r [] [] ∷ []) false })
unfolding line_read text_read fields_of is_name new_title title_of hex_octets
is_r dialect runs = let named = runs.1.1.0 in rw named refl

port_a : (dialect : Dialect) → RunsStorms dialect → line_read (stage dialect both (a [] [] ∷ b [] [] [] ∷ r [] [] ∷ []) false) (codes "port a x 02000000000a")
    ≡ Ok (record { line = lines.Port 0 0 (snpa 0 10); names = stage dialect both (a a_on [] ∷ b [] [] [] ∷ r [] [] ∷ []) false })
unfolding line_read text_read fields_of is_name port_lan_of new_station station_of hex_octets
port_a dialect runs = let named = runs.1.1.1.0 in rw named refl

port_b : (dialect : Dialect) → RunsStorms dialect → line_read (stage dialect both (a a_on [] ∷ b [] [] [] ∷ r [] [] ∷ []) false) (codes "port b y 02000000000b")
    ≡ Ok (record { line = lines.Port 1 1 (snpa 0 11); names = stage dialect both (a a_on [] ∷ b b_on [] [] ∷ r [] [] ∷ []) false })
unfolding line_read text_read fields_of is_name port_lan_of new_station station_of hex_octets
port_b dialect runs = let named = runs.1.1.1.0 in rw named refl

port_r_x : (dialect : Dialect) → RunsStorms dialect → line_read (stage dialect both (a a_on [] ∷ b b_on [] [] ∷ r [] [] ∷ []) false) (codes "port r x 020000000901")
    ≡ Ok (record { line = lines.Port 2 0 (snpa 9 1); names = stage dialect both (a a_on [] ∷ b b_on [] [] ∷ r r_on_x [] ∷ []) false })
unfolding line_read text_read fields_of is_name port_lan_of new_station station_of hex_octets
port_r_x dialect runs = let named = runs.1.1.1.0 in rw named refl

port_r_y : (dialect : Dialect) → RunsStorms dialect → line_read (stage dialect both (a a_on [] ∷ b b_on [] [] ∷ r r_on_x [] ∷ []) false) (codes "port r y 020000000902")
    ≡ Ok (record { line = lines.Port 2 1 (snpa 9 2); names = stage dialect both (a a_on [] ∷ b b_on [] [] ∷ r r_on [] ∷ []) false })
unfolding line_read text_read fields_of is_name port_lan_of new_station station_of hex_octets
port_r_y dialect runs = let named = runs.1.1.1.0 in rw named refl

route_a : (dialect : Dialect) → RunsStorms dialect → line_read (stage dialect both (a a_on [] ∷ b b_on [] [] ∷ r r_on [] ∷ []) false) (codes "route a - r x")
    ≡ Ok (record { line = lines.Route 0 [] 2 0; names = stage dialect both (a a_on all ∷ b b_on [] [] ∷ r r_on [] ∷ []) false })
unfolding line_read text_read fields_of is_name route_lan_of new_prefix prefix_of hex_octets
route_a dialect runs = let named = runs.1.1.1.1.0 in rw named refl

route_b : (dialect : Dialect) → RunsStorms dialect → line_read (stage dialect both (a a_on all ∷ b b_on [] [] ∷ r r_on [] ∷ []) false) (codes "route b - r y")
    ≡ Ok (record { line = lines.Route 1 [] 2 1; names = stage dialect both (a a_on all ∷ b b_on all [] ∷ r r_on [] ∷ []) false })
unfolding line_read text_read fields_of is_name route_lan_of new_prefix prefix_of hex_octets
route_b dialect runs = let named = runs.1.1.1.1.0 in rw named refl

route_r_a : (dialect : Dialect) → RunsStorms dialect → line_read (stage dialect both (a a_on all ∷ b b_on all [] ∷ r r_on [] ∷ []) false) (codes "route r 490a a x")
    ≡ Ok (record { line = lines.Route 2 (73 ∷ 10 ∷ []) 0 0; names = stage dialect both (a a_on all ∷ b b_on all [] ∷ r r_on to_a ∷ []) false })
unfolding line_read text_read fields_of is_name route_lan_of new_prefix prefix_of hex_octets
route_r_a dialect runs = let named = runs.1.1.1.1.0 in rw named refl

route_r_b : (dialect : Dialect) → RunsStorms dialect → line_read (stage dialect both (a a_on all ∷ b b_on all [] ∷ r r_on to_a ∷ []) false) (codes "route r 490b b y")
    ≡ Ok (record { line = lines.Route 2 (73 ∷ 11 ∷ []) 1 1; names = stage dialect both (a a_on all ∷ b b_on all [] ∷ r r_on to_both ∷ []) false })
unfolding line_read text_read fields_of is_name route_lan_of new_prefix prefix_of hex_octets
route_r_b dialect runs = let named = runs.1.1.1.1.0 in rw named refl

tsap_b : (dialect : Dialect) → RunsStorms dialect → line_read (stage dialect both (a a_on all ∷ b b_on all [] ∷ r r_on to_both ∷ []) false) (codes "tsap b bb")
    ≡ Ok (record { line = lines.Tsap 1 (187 ∷ []); names = stage dialect both (a a_on all ∷ b b_on all bb ∷ r r_on to_both ∷ []) false })
unfolding line_read text_read fields_of is_name end_system_of new_selector selector_of octets_of decode_pairs
tsap_b dialect runs = let named = runs.1.1.1.1.1.0 in rw named refl

start : (dialect : Dialect) → RunsStorms dialect → line_read (stage dialect both (a a_on all ∷ b b_on all bb ∷ r r_on to_both ∷ []) false) (codes "start")
    ≡ Ok (record { line = lines.Start; names = stage dialect both (a a_on all ∷ b b_on all bb ∷ r r_on to_both ∷ []) true })
unfolding line_read text_read fields_of
start dialect runs = let named = runs.1.1.1.1.1.1.0 in rw named refl

-- what is declared after the set-up
abbrev pub set_up_names : Dialect → Declared
set_up_names dialect = stage dialect both (a a_on all ∷ b b_on all bb ∷ r r_on to_both ∷ []) true

abbrev pub said : List Line
said =
    lines.Lan 0 2 1497
    ∷ lines.Lan 1 3 264
    ∷ lines.Es 0 (73 ∷ 10 ∷ 0 ∷ [])
    ∷ lines.Es 1 (73 ∷ 11 ∷ 0 ∷ [])
    ∷ lines.Is 2 (73 ∷ 9 ∷ 0 ∷ [])
    ∷ lines.Port 0 0 (snpa 0 10)
    ∷ lines.Port 1 1 (snpa 0 11)
    ∷ lines.Port 2 0 (snpa 9 1)
    ∷ lines.Port 2 1 (snpa 9 2)
    ∷ lines.Route 0 [] 2 0
    ∷ lines.Route 1 [] 2 1
    ∷ lines.Route 2 (73 ∷ 10 ∷ []) 0 0
    ∷ lines.Route 2 (73 ∷ 11 ∷ []) 1 1
    ∷ lines.Tsap 1 (187 ∷ [])
    ∷ lines.Start
    ∷ []

pub set_up_read : (dialect : Dialect) → RunsStorms dialect → Says (nothing_declared dialect) set_up_lines said (set_up_names dialect)
set_up_read dialect runs =
    (_, lan_x dialect runs, (_, lan_y dialect runs, (_, es_a dialect runs, (_, es_b dialect runs, (_, is_r dialect runs, (_, port_a dialect runs, (_, port_b dialect runs, (_, port_r_x dialect runs, (_, port_r_y dialect runs, (_, route_a dialect runs, (_, route_b dialect runs, (_, route_r_a dialect runs, (_, route_r_b dialect runs, (_, tsap_b dialect runs, (_, start dialect runs, refl)))))))))))))))
