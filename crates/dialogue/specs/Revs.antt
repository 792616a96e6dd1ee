-- How often a project was changed.
pub use Rattle.vocabulary.specs.Revs.{last_rev}
