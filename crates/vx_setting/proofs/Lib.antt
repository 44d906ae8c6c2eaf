pub mod RealLaws
