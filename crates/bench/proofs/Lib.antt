-- First what the calls' own proofs go by (TableLaws to ExampleLaws).
-- That every list of events is as claimed goes so, from the bottom up. What a history says it says entry by entry
-- (MomentLaws, HistoryLaws, OwedLaws). A bench has a view: where each board stands, how far it is, and what is signed
-- (ViewLaws). An accepted event is replayed on a view, and what it adds to the history is what is new there
-- (ReplayLaws); so a history tells a view after each entry (TellsLaws). What passes the table (AcceptedLaws) has an
-- effect, which is read back (EffectLaws); and the view of the effect is the replay of the view (SquareLaws). What else
-- holds of a bench that was played (FitLaws, of owed copies SpreadLaws) stays so (InvariantLaws), and values still come
-- from where they may (OriginLaws). So each list keeps all this, which gives the claim (ClaimLaws); it begins with a
-- fresh bench (SetupLaws, OutsetLaws). Demands has what src/claims promises. Then that the table's two texts say the
-- same (AppliesLaws), and those of the call for a fresh bench (MakingLaws).
pub mod TableLaws
pub mod TurnLaws
pub mod BenchLaws
pub mod AnswerLaws
pub mod RunLaws
pub mod ShowLaws
pub mod ExampleLaws
pub mod MomentLaws
pub mod HistoryLaws
pub mod OwedLaws
pub mod ViewLaws
pub mod ReplayLaws
pub mod TellsLaws
pub mod AcceptedLaws
pub mod RowLaws
pub mod EffectLaws
pub mod SpreadLaws
pub mod FitLaws
pub mod SquareLaws
pub mod InvariantLaws
pub mod OriginLaws
pub mod ClaimLaws
pub mod SetupLaws
pub mod OutsetLaws
pub mod Demands
pub mod AppliesLaws
pub mod MakingLaws
