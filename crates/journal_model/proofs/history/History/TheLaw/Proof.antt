-- A `&` to a history holds nothing beside its marker. Assumes `Logic`.
use denote.RattleType.{RattleType}
use denote.Param.Laws.{Laws}
use denote.Param.Shared.{copy_shared}
use denote.SharingLaws.{nothing_shr_laws}
use denote.Struct.Laws.{field_copy}
use denote.Struct.Lending.{of_Lends, Lends-nothing}
use Rattle.std.specs.contracts.marker.PhantomData as Marker
use Rattle.journal_model.specs.contracts.history.History as Of
use Rattle.journal_model.proofs.history.History.TheLaw.Statement.{statement}

pub shares : (T : RattleType) (L : Laws T) → statement T L
shares T L =
    of_Lends (Of.struct T) (Of.the_codes T.Denot T.coded (Marker.the_row T).coded) (Of.the_heap T) (Of.the_lent T) (λ d p. nothing_shr_laws)
    (copy_shared (Marker.the_field T) (field_copy (Marker.the_type T) tt), tt) (λ M 𝓤 𝓛 d p. Lends-nothing 𝓛 (Of.the_heap T d) (Of.the_row T).lives)
