-- Refusals: each case of the code's enums with its number, and what its place counts.
use Rattle.std.specs.Prelude.{ℕ, None}
use Rattle.language.specs.declared.faults.Fault.{Fault}
use Rattle.language.specs.declared.faults.Layer.{Layer}
use Rattle.language.specs.declared.faults.Layer.TheVariants.{Table, Names, Run, Piece}
use Rattle.language.specs.declared.faults.TableCause.TheVariants.{Length, WorkLists, Kind, Fields, Pieces, Whole}
use Rattle.language.specs.declared.faults.NamesCause.TheVariants.{Repeated, Variable, Procedure, Arguments, Types}
use Rattle.language.specs.declared.faults.RunCause.TheVariants.{Sum, Unit as UnitCause}
use Rattle.language.specs.declared.faults.PieceCause.TheVariants.{NotBare, Points, Store, NotReady, Ticket, Point, Room, Ungraded}
use Rattle.language.specs.declared.faults.PlaceKind.{PlaceKind}
use Rattle.language.specs.declared.faults.PlaceKind.TheVariants.{Node as a_node, Point as a_point, Nothing as nothing}

abbrev pub number_of : Layer → ℕ
number_of (Table Length) = 1
number_of (Table WorkLists) = 2
number_of (Table Kind) = 3
number_of (Table Fields) = 4
number_of (Table Pieces) = 5
number_of (Table Whole) = 6
number_of (Names Repeated) = 7
number_of (Names Variable) = 8
number_of (Names Procedure) = 9
number_of (Names Arguments) = 10
number_of (Names Types) = 11
number_of (Piece NotBare) = 12
number_of (Piece Points) = 13
number_of (Piece Store) = 14
number_of (Piece NotReady) = 15
number_of (Piece Ticket) = 16
number_of (Piece Point) = 17
number_of (Piece Room) = 18
number_of (Run Sum) = 19
number_of (Run UnitCause) = 20
number_of (Piece Ungraded) = 21

abbrev pub place_of : Layer → PlaceKind
place_of (Table Length) = nothing
place_of (Table WorkLists) = nothing
place_of (Table Kind) = a_node
place_of (Table Fields) = a_node
place_of (Table Pieces) = a_node
place_of (Table Whole) = a_node
place_of (Names cause) = a_node
place_of (Run cause) = a_node
place_of (Piece NotBare) = nothing
place_of (Piece Points) = nothing
place_of (Piece Store) = nothing
place_of (Piece NotReady) = nothing
place_of (Piece Ticket) = nothing
place_of (Piece Point) = a_point
place_of (Piece Room) = nothing
place_of (Piece Ungraded) = a_point

-- a refusal as it is first given
abbrev pub fault : Layer → ℕ → Fault
fault layer place = record { layer = layer; place = place; point = None }
