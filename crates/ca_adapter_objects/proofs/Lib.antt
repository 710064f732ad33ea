mod RegionLemmas
